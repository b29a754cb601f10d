-- The grammar of blocks of definite length, IEEE 488.2 7.7.6: what a text must be made of to be one.
use Rattle.std.specs.Prelude.{ℕ, ◌+◌, ◌≤◌, ◌≡◌, List, true, length, take, drop}
use Rattle.kind.specs.Class.{is_digit}
use Rattle.util.specs.Run.{every}
use Rattle.integer.specs.Digit.{value_of}
use Rattle.token.specs.declared.View.{View}

-- IEEE 488.2 7.7.6.2: n digits from a place on, which say how long the view behind them is.
pub record BlockForm (n : ℕ) (s : List ℕ) (at : ℕ) (v : View) : Type 0 where
  pub start : v.start ≡ at + n
  pub all_digit : every is_digit (take n (drop at s)) ≡ true
  pub as_long : v.start + value_of 10 (take n (drop at s)) ≡ v.end
  pub inside : v.end ≤ length s
