-- The claims.
use Prim.Native.Nat.{ℕ, zero, suc, ◌+◌, ◌*◌, ◌/◌, ◌%◌, ◌<◌, ◌^◌}
use mathlib.Core.Path.{◌≡◌, refl, ◌∙◌}
use mathlib.Core.Bool.{Bool, true, false}
use lib.Dec.{eqb}
use native.Mathlib.Omega.{arith}
use Rattle.record.specs.Word.{placed, field, bit, word_of, record_in}
use Rattle.messages.specs.RecordClaims.{Fits, Claims}
use Rattle.record.specs.declared.Record.{Record}

abbrev sum : ℕ → ℕ → ℕ → ℕ → ℕ
sum c q b n = placed 16 48 c + placed 1 47 q + placed 16 31 b + placed 16 15 n

fields_again : (c q b n : ℕ) → c < 2 ^ 16 → q < 2 → b < 2 ^ 16 → n < 2 ^ 16
    → (field 16 48 (sum c q b n) ≡ c) × (field 1 47 (sum c q b n) ≡ q) × (field 16 31 (sum c q b n) ≡ b) × (field 16 15 (sum c q b n) ≡ n)
fields_again c q b n hc hq hb hn = (omega arith, omega arith, omega arith, omega arith)

bit_fits : (query : Bool) → bit query < 2
bit_fits true = omega arith
bit_fits false = omega arith

bit_told : (query : Bool) → eqb (bit query) 1 ≡ query
bit_told true = refl
bit_told false = refl

again : (u : Record) → Fits u → record_in (word_of u) ≡ u
unfolding record_in word_of
again u f =
    let z = fields_again _ _ _ _ f.command (bit_fits u.query) f.branch f.items in
    rw (z.0, z.1, z.2, z.3, bit_told u.query)

-- the bit that a test told is the bit
bit_back : (n : ℕ) → n < 2 → bit (eqb n 1) ≡ n
bit_back zero l = refl
bit_back (suc zero) l = refl
bit_back (suc (suc n)) l = absurd (omega arith)

sums : (a b c d e f g w : ℕ) → e ≡ d + f → f ≡ c + g → g ≡ b + a → e ≡ w → a + b + c + d ≡ w
sums a b c d e f g w h i j k = omega (arith, h, i, j, k)

same_word : (w : ℕ) → w < 2 ^ 64 → w % 2 ^ 15 ≡ 0 → word_of (record_in w) ≡ w
unfolding record_in word_of
same_word w l z =
    let i : w / 2 ^ 15 * 2 ^ 15 ≡ placed 16 15 (field 16 15 w) + w / 2 ^ 31 * 2 ^ 31 = omega arith in
    let b : w / 2 ^ 31 * 2 ^ 31 ≡ placed 16 31 (field 16 31 w) + w / 2 ^ 47 * 2 ^ 47 = omega arith in
    let q : w / 2 ^ 47 * 2 ^ 47 ≡ placed 1 47 (field 1 47 w) + w / 2 ^ 48 * 2 ^ 48 = omega arith in
    let c : w / 2 ^ 48 * 2 ^ 48 ≡ placed 16 48 (field 16 48 w) = omega arith in
    let below : w / 2 ^ 15 * 2 ^ 15 ≡ w = omega arith in
    rw (bit_back (field 1 47 w) (omega arith)) (sums _ _ _ _ _ _ _ w i b (q ∙ rw c) below)

zero_below : (u : Record) → word_of u % 2 ^ 15 ≡ 0
unfolding word_of
zero_below u = omega arith

word_fits : (u : Record) → word_of u < 2 ^ 64
unfolding word_of
word_fits u = omega arith

pub claims : Claims
claims = record { again = again; same_word = same_word; zero_below = zero_below; word_fits = word_fits }
