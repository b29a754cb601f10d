-- In an accepted table there is one route at most for a start and words: the same nodes, spoken or not, leaf and branch kept. And what
-- a route's first step says of the answer: one law for each way on from a node. No order of search is left in them but that no child is
-- spelled.
use Rattle.std.specs.Prelude.{Result, Ok}
use Prim.Native.Nat.{ℕ, ◌≤◌}
use mathlib.Core.Path.{◌≡◌, refl, sym, ap, ap₂, subst}
use mathlib.Core.List.{List, [], ◌∷◌}
use mathlib.Core.Bool.{Bool, true, false}
use native.Mathlib.Omega.{arith}
use lib.ListN.{get_or}
use Rattle.kind.proofs.Tests.{clash}
use Rattle.mnemonic.specs.Spelling.{spells}
use Rattle.node.specs.Word.{command_number}
use Rattle.node.specs.Tree.{branch, default, name_of, Child, Near, child, under}
use Rattle.routes.specs.TableClaims.{Tree}
use Rattle.header.specs.{Header.undefined}
use Rattle.ahead.specs.declared.Stop.{Stop}
use Rattle.routes.specs.Route.{Stage, by_word as spoken-stage, silent, Route, here, said, unsaid}
use Rattle.error.specs.declared.ErrorCode.{ErrorCode}
use Rattle.header.specs.declared.Header.{Header}

-- the first word is spoken for a near node
spoken : {t names : List ℕ} {h n leaf kept : ℕ} {w : List ℕ} {words : List (List ℕ)} {stages : List Stage}
    → Route t names h n (w ∷ words) stages leaf kept → (k : ℕ) × Near t n k × (spells (name_of t names k) w ≡ true)
spoken (said {k = k} c s r) = (k, child c, s)
spoken (unsaid c d r) = let z = spoken r in (z.0, under c d z.1, z.2)

from_same : {t names : List ℕ} {h n m leaf kept : ℕ} {words : List (List ℕ)} {stages : List Stage}
    → n ≡ m → Route t names h m words stages leaf kept → Route t names h n words stages leaf kept
from_same {t} {names} {h} {leaf = leaf} {kept} {words} {stages} q r = subst (λ (x : ℕ). Route t names h x words stages leaf kept) (sym q) r

one_more : (stage : ℕ → Stage) {k j leaf leaf' kept kept' : ℕ} {stages stages' : List Stage} → k ≡ j → (stages ≡ stages') × (leaf ≡ leaf') × (kept ≡ kept')
    → (◌≡◌ {A = List Stage} (stage k ∷ stages) (stage j ∷ stages')) × (leaf ≡ leaf') × (kept ≡ kept')
one_more stage q z = (ap₂ ◌∷◌ (ap stage q) z.0, z.1, z.2)

module _ (t names : List ℕ) (ok : Tree t names) where
  -- a near node is the child of a branch no earlier than the one that it is near to
  near_holder : {b k : ℕ} → Near t b k → (c : ℕ) × (b ≤ c) × Child t c k
  near_holder {b} (child c) = (b, omega arith, c)
  near_holder (under c d x) = let z = near_holder x in (z.0, omega (arith, ok.after c, z.1), z.2)

  -- no child is spelled by the word that a route through the default branch speaks next
  not_both : {h b k d leaf kept : ℕ} {w : List ℕ} {words : List (List ℕ)} {stages : List Stage} {A : Type 0}
      → Child t b k → spells (name_of t names k) w ≡ true → Child t b d → default t d ≡ true → Route t names h d (w ∷ words) stages leaf kept → A
  not_both {b} {k} {d} {w} c s c' m r =
      let z = spoken r in
      let e : k ≡ z.0 = ok.apart (child c) (under c' m z.1) w s z.2 in
      let y = near_holder z.1 in
      let f : b ≡ y.0 = ok.one_holder c (rw e y.2) in
      absurd (omega (arith, ok.after c', y.1, f))

  pub unique : {h n leaf leaf' kept kept' : ℕ} {words : List (List ℕ)} {stages stages' : List Stage}
      → Route t names h n words stages leaf kept → Route t names h n words stages' leaf' kept' → (stages ≡ stages') × (leaf ≡ leaf') × (kept ≡ kept')
  unique (here l) (here m) = (refl, refl, refl)
  unique (here l) (unsaid c d r) = clash c.holder l
  unique (said {w = w} c s r) (said c' s' r') = let q = ok.apart (child c) (child c') w s s' in one_more spoken-stage q (unique r (from_same q r'))
  unique (said c s r) (unsaid c' d r') = not_both c s c' d r'
  unique (unsaid c d r) (here m) = clash c.holder m
  unique (unsaid c d r) (said c' s r') = not_both c' s c d r
  unique (unsaid c d r) (unsaid c' d' r') = let q = ok.one_default c c' d d' in one_more silent q (unique r (from_same q r'))

-- the answer is a route's command and the branch that it keeps, with the form and the end given; or there is no route, and it is -113
pub data Outcome (t names : List ℕ) (query : Bool) (end : Stop) (place : ℕ) (h n : ℕ) (words : List (List ℕ)) : Result Header ErrorCode → Type 0 where
  routed : {stages : List Stage} {leaf kept : ℕ} → Route t names h n words stages leaf kept
      → Outcome t names query end place h n words (Ok (record { command = command_number (get_or t leaf 0); query = query; branch = kept; stop = end; place = place }))
  lost : ((stages : List Stage) (leaf kept : ℕ) → Route t names h n words stages leaf kept → ⊥) → Outcome t names query end place h n words undefined

module _ (t names : List ℕ) (query : Bool) (end : Stop) (place : ℕ) where
  goes_on : {h n leaf kept : ℕ} {w : List ℕ} {words : List (List ℕ)} {stages : List Stage} → Route t names h n (w ∷ words) stages leaf kept → branch t n ≡ true
  goes_on (said c s r) = c.holder
  goes_on (unsaid c d r) = c.holder

  module _ {h n : ℕ} where
    pub at_leaf : branch t n ≡ false → Outcome t names query end place h n [] (Ok (record { command = command_number (get_or t n 0); query = query; branch = h; stop = end; place = place }))
    at_leaf m = routed (here m)

    pub past_leaf : {w : List ℕ} {words : List (List ℕ)} → branch t n ≡ false → Outcome t names query end place h n (w ∷ words) undefined
    past_leaf m = lost (λ stages leaf kept r. clash (goes_on r) m)

    pub no_default : branch t n ≡ true → ((j : ℕ) → Child t n j → default t j ≡ false) → Outcome t names query end place h n [] undefined
    no_default m never = lost (λ stages leaf kept r. none r)
      where
        none : {stages : List Stage} {leaf kept : ℕ} → Route t names h n [] stages leaf kept → ⊥
        none (here l) = clash m l
        none (unsaid {k = k} c d r) = clash d (never k c)

    module _ {w : List ℕ} {words : List (List ℕ)} (never : (j : ℕ) → Child t n j → spells (name_of t names j) w ≡ false) where
      pub unspelled : ((j : ℕ) → Child t n j → default t j ≡ false) → Outcome t names query end place h n (w ∷ words) undefined
      unspelled never' = lost (λ stages leaf kept r. none r)
        where
          none : {stages : List Stage} {leaf kept : ℕ} → Route t names h n (w ∷ words) stages leaf kept → ⊥
          none (said {k = k} c s r) = clash s (never k c)
          none (unsaid {k = k} c d r) = clash d (never' k c)

      pub by_default : Tree t names → {k : ℕ} → Child t n k → {r : Result Header ErrorCode} → default t k ≡ true → Outcome t names query end place h k (w ∷ words) r
          → Outcome t names query end place h n (w ∷ words) r
      by_default ok c d (routed r) = routed (unsaid c d r)
      by_default ok c d (lost l) = lost (λ stages leaf kept r. none r)
        where
          none : {stages : List Stage} {leaf kept : ℕ} → Route t names h n (w ∷ words) stages leaf kept → ⊥
          none (said {k = j} c' s r) = clash s (never j c')
          none (unsaid c' d' r) = l _ _ _ (from_same (ok.one_default c c' d d') r)

    module _ (ok : Tree t names) {k : ℕ} (c : Child t n k) where
      pub by_word : {r : Result Header ErrorCode} {w : List ℕ} {words : List (List ℕ)} → spells (name_of t names k) w ≡ true → Outcome t names query end place n k words r
          → Outcome t names query end place h n (w ∷ words) r
      by_word s (routed r) = routed (said c s r)
      by_word {w} {words} s (lost l) = lost (λ stages leaf kept r. none r)
        where
          none : {stages : List Stage} {leaf kept : ℕ} → Route t names h n (w ∷ words) stages leaf kept → ⊥
          none (said c' s' r) = l _ _ _ (from_same (ok.apart (child c) (child c') w s s') r)
          none (unsaid c' d r) = not_both t names ok c s c' d r

      pub at_end : {r : Result Header ErrorCode} → default t k ≡ true → Outcome t names query end place h k [] r → Outcome t names query end place h n [] r
      at_end d (routed r) = routed (unsaid c d r)
      at_end d (lost l) = lost (λ stages leaf kept r. none r)
        where
          none : {stages : List Stage} {leaf kept : ℕ} → Route t names h n [] stages leaf kept → ⊥
          none (here m) = clash c.holder m
          none (unsaid c' d' r) = l _ _ _ (from_same (ok.one_default c c' d d') r)
