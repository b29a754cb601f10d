-- Strings and expressions: what is accepted has the form, and what has the form is accepted; the claims.
use Prim.Native.Nat.{ℕ, suc, ◌+◌, ◌-◌, ◌≤◌, ◌<◌}
use mathlib.Core.Path.{◌≡◌, refl, ap, ◌∙◌}
use mathlib.Core.List.{List, [], ◌∷◌, ◌++◌}
use mathlib.Core.Bool.{Bool, true, false, cond}
use mathlib.Core.Logic.{⊎_elim}
use native.Mathlib.Omega.{arith}
use lib.Dec.{eqb, leb, ltb}
use lib.ListN.{length, get_or, take, drop}
use borrow.Author.Tests.{eq-eqb, eqb-true, lt-leb, ltb-true, lt-ltb, leb-false}
use Rattle.error.specs.declared.ErrorCode.TheVariants.{SuffixNotAllowed, InvalidCharacter, InvalidStringData, InvalidExpression}
use Rattle.kind.specs.Class.{is_quote, is_ascii}
use Rattle.kind.proofs.Tests.{either, and_left}
use Rattle.util.specs.Run.{run_end, every, stands_at}
use Rattle.util.proofs.Runs.{run_from}
use Rattle.token.specs.{Token.view_in, View.view_of, declared.View.View}
use Rattle.token.specs.declared.Token.TheVariants.{StringProgramData, ExpressionProgramData}
use Rattle.item.specs.Follow.{token, refused, followed}
use Rattle.forms.specs.ItemForm.{Follows, Ended}
use Rattle.forms.proofs.ItemAccepted.{only_then, only_else, only_followed, ended, part_shown, part_run}
use Rattle.forms.proofs.ItemSeams.{here_get, here_inside, here_stands, here_next, here_run, after_none, white_none, well_followed}
use Rattle.enclosed.specs.String.{in_string, string_end, closed, string_data}
use Rattle.enclosed.specs.Expression.{in_expression, bracketed, expression_data}
use Rattle.forms.specs.EnclosedForm.{StringBody, StringForm, ExpressionForm}
use Rattle.forms.specs.EnclosedForm.StringBody.{empty, plain, doubled}
use Rattle.enclosed.proofs.Strings.{plain as in-plain, doubled as in-doubled}
use Rattle.forms.specs.EnclosedClaims.{Claims}

-- a place that has a byte is inside the text
stands_inside : (b : ℕ) (s : List ℕ) (i : ℕ) → stands_at b s i ≡ true → i < length s
unfolding stands_at
stands_inside b s i h = ltb-true i (length s) (and_left (ltb i (length s)) (eqb (get_or s i 0) b) h)

module _ (s : List ℕ) (at : ℕ) where
  pub expression_form : (v : View) (next : ℕ) → expression_data s at ≡ token (ExpressionProgramData v) next
      → (v.start ≡ at) × ExpressionForm s v × Ended s (v.end + 1) next
  unfolding expression_data bracketed
  expression_form v next h =
      let end : ℕ = run_end in_expression s at in
      let c = only_then _ next _ _ _ h in
      let e : view_of at end ≡ v = ap view_in (only_followed (ExpressionProgramData v) next (ExpressionProgramData _) _ _ _ c.1) in
      let k : end ≤ length s = omega (arith, stands_inside 41 s end c.0) in (
        rw (← e),
        record { forward = rw (← e) (run_from in_expression s at); body = rw (← e, part_shown s at end (run_from in_expression s at) k) (part_run s in_expression at); closing = rw (← e) c.0 },
        rw (← e) (ended _ _ _ _ _ next c.1),
      )

  pub expression_read : (t after : List ℕ) → drop at s ≡ t ++ 41 ∷ after → every in_expression t ≡ true → (f : Follows after)
      → expression_data s at ≡ token (ExpressionProgramData (view_of at (at + length t))) (at + length t + 1 + length f.white)
  unfolding expression_data bracketed in_expression is_quote is_ascii
  expression_read t after h a f =
      let n : drop (at + length t) s ≡ 41 ∷ after = here_next s at t (41 ∷ after) h in
      rw (here_run s at t (41 ∷ after) h in_expression a refl, here_stands s (at + length t) 41 after n)
      (well_followed (ExpressionProgramData (view_of at (at + length t))) SuffixNotAllowed s (at + length t + 1) after (here_next s (at + length t) (41 ∷ []) after n) f)

-- what a scan goes through is the body of a string
module _ (q : ℕ) where
  body : (t : List ℕ) → StringBody q (take (in_string q t) t)
  unfolding in_string
  body [] = empty
  body (b ∷ []) = go (eqb b q) (is_ascii b) refl refl
    where
      go : (same ascii : Bool) → eqb b q ≡ same → is_ascii b ≡ ascii → StringBody q (take (cond same 0 (cond ascii 1 0)) (b ∷ []))
      go true ascii e a = empty
      go false true e a = plain b [] e a empty
      go false false e a = empty
  body (b ∷ c ∷ t) = go (eqb b q) (eqb c q) (is_ascii b) refl refl refl (body t) (body (c ∷ t))
    where
      go : (same twice ascii : Bool) → eqb b q ≡ same → eqb c q ≡ twice → is_ascii b ≡ ascii
          → StringBody q (take (in_string q t) t) → StringBody q (take (in_string q (c ∷ t)) (c ∷ t))
          → StringBody q (take (cond same (cond twice (suc (suc (in_string q t))) 0) (cond ascii (suc (in_string q (c ∷ t))) 0)) (b ∷ c ∷ t))
      go true true ascii e f a two one = rw (eqb-true b q e, eqb-true c q f) (doubled (take (in_string q t) t) two)
      go true false ascii e f a two one = empty
      go false twice true e f a two one = plain b (take (in_string q (c ∷ t)) (c ∷ t)) e a one
      go false twice false e f a two one = empty

  -- and a body is gone through to the quote that closes it
  scan : (t y : List ℕ) → StringBody q t → eqb (get_or y 0 0) q ≡ false → in_string q (t ++ q ∷ y) ≡ length t
  unfolding in_string
  scan t [] empty n = rw (eq-eqb q q refl)
  scan t (c ∷ y) empty n = rw (eq-eqb q q refl, n)
  scan t y (plain b u e a s) n = in-plain q b (u ++ q ∷ y) e a ∙ ap suc (scan u y s n)
  scan t y (doubled u s) n = in-doubled q q (u ++ q ∷ y) q (eq-eqb q q refl) (eq-eqb q q refl) ∙ ap (λ (k : ℕ). suc (suc k)) (scan u y s n)

  -- no quote follows a string
  quote_none : is_quote q ≡ true → (y : List ℕ) → Follows y → eqb (get_or y 0 0) q ≡ false
  unfolding is_quote
  quote_none h y f = ⊎_elim (λ k. rw (eqb-true q 34 k) (none 34 refl refl refl refl refl refl refl refl)) (λ k. rw (eqb-true q 39 k) (none 39 refl refl refl refl refl refl refl refl)) (either (eqb q 34) (eqb q 39) h)
    where
      none : (c : ℕ) → eqb 9 c ≡ false → eqb 10 c ≡ false → eqb 12 c ≡ false → eqb 13 c ≡ false → eqb 32 c ≡ false → eqb 0 c ≡ false → eqb 44 c ≡ false → eqb 59 c ≡ false → eqb (get_or y 0 0) c ≡ false
      none c a b d e g z k u = after_none (λ b. eqb b c) (white_none (λ b. eqb b c) a b d e g) z k u y f

  module _ (s : List ℕ) (at : ℕ) where
    pub string_form : (v : View) (next : ℕ) → string_data q s at ≡ token (StringProgramData v) next
        → (v.start ≡ at) × StringForm q s v × Ended s (v.end + 1) next
    unfolding string_data closed string_end stands_at
    string_form v next h =
        let end : ℕ = at + in_string q (drop at s) in
        let c = only_else (StringProgramData v) next (leb (length s) end) (cond (eqb (get_or s end 0) q) (followed (StringProgramData (view_of at end)) SuffixNotAllowed s (end + 1)) (refused InvalidCharacter)) InvalidStringData h in
        let d = only_then (StringProgramData v) next (eqb (get_or s end 0) q) (followed (StringProgramData (view_of at end)) SuffixNotAllowed s (end + 1)) InvalidCharacter c.1 in
        let e : view_of at end ≡ v = ap view_in (only_followed (StringProgramData v) next (StringProgramData _) _ _ _ d.1) in
        let k : end < length s = leb-false (length s) end c.0 in
        let m : end - at ≡ in_string q (drop at s) = omega arith in
        let l : at ≤ end = omega arith in (
          rw (← e),
          record { forward = rw (← e) l; body = rw (← e, part_shown s at end l (omega (arith, k)), m) (body (drop at s)); closing = rw (← e, lt-ltb end (length s) k) d.0 },
          rw (← e) (ended _ _ _ _ _ next d.1),
        )

    pub string_read : (t after : List ℕ) → is_quote q ≡ true → drop at s ≡ t ++ q ∷ after → StringBody q t → (f : Follows after)
        → string_data q s at ≡ token (StringProgramData (view_of at (at + length t))) (at + length t + 1 + length f.white)
    unfolding string_data closed string_end
    string_read t after hq h b f =
        let n : drop (at + length t) s ≡ q ∷ after = here_next s at t (q ∷ after) h in
        rw (h, scan t after b (quote_none hq after f), lt-leb (length s) (at + length t) (here_inside s (at + length t) q after n), here_get s (at + length t) (q ∷ after) n, eq-eqb q q refl)
        (well_followed (StringProgramData (view_of at (at + length t))) SuffixNotAllowed s (at + length t + 1) after (here_next s (at + length t) (q ∷ []) after n) f)

pub claims : Claims
claims =
    record {
      string_form = string_form;
      string_read = string_read;
      expression_form = expression_form;
      expression_read = expression_read;
    }
