-- The claims.
use Rattle.std.specs.Prelude.{Result, Ok, Err}
use Prim.Native.Nat.{ℕ, suc, ◌≤◌, ◌<◌}
use mathlib.Core.Path.{◌≡◌, refl, sym, ap, ◌∙◌}
use mathlib.Core.Logic.{◌⊎◌, inl, inr}
use mathlib.Core.List.{List, [], ◌∷◌, ◌++◌}
use mathlib.Core.Bool.{Bool, true, false, cond, ◌&&◌}
use native.Mathlib.Omega.{arith}
use lib.Dec.{eqb, ltb}
use lib.ListN.{length, get_or, length-append}
use borrow.Author.Tests.{eqb-true, lt-ltb}
use Rattle.error.specs.declared.ErrorCode.TheVariants.{UndefinedHeader}
use Rattle.kind.specs.Text.{ascii}
use Rattle.kind.specs.Class.{is_capital, is_small, is_letter}
use Rattle.kind.proofs.Tests.{both_ways, clash, and_right, less_or_not}
use Rattle.util.specs.Run.{stands_at}
use Rattle.node.specs.{Word.command_number, Tree.branch}
use Rattle.table.specs.Fault.{Accepted}
use Rattle.routes.specs.{TableClaims.Tree, Route.Leads, Heard.Hears, Heard.Spoken}
use Rattle.routes.proofs.TableClaims as table
use Rattle.token.specs.{declared.View.View, declared.Token.Token, declared.Token.TheVariants.HeaderMnemonicSeparator}
use Rattle.tokenizer.specs.{Step.of_message, declared.State.State}
use Rattle.ahead.specs.{Seen.seen_at, declared.Stop.Stop}
use Rattle.header.specs.Header.{is_common, keeping, Begins}
use Rattle.ahead.specs.declared.Ahead.TheVariants as ahead
use Rattle.units.proofs.HeaderClaims as header
use Rattle.header.proofs.Once.{Began, began_at, at_root, starred, plain}
use Rattle.tree.specs.Alone.{closing, Resolves, no_branch, too_long, one_header, ResolvesAlone}
use Rattle.routes.specs.WellFormed.{Mnemonic, Joined, last, before, WellFormed, Common, Tokens, next, Shown}
use Rattle.routes.specs.Heard as spoken
use Rattle.routes.specs.RouteClaims.{Routed, Answers, with_branch, Claims}
use Rattle.routes.proofs.{Hearing.heard, SpokenBytes.reads, SpokenBytes.reads_common}
use Rattle.routes.proofs.Outcomes.{unique, Outcome, routed, lost}
use Rattle.routes.proofs.Saying.{token_seen, Said, from_there, said}
use Rattle.routes.proofs.ResolveOnce.{one_resolves, past_check, unchecked, one_alone}
use Rattle.error.specs.declared.ErrorCode.{ErrorCode}
use Rattle.header.specs.declared.Header.{Header}
use Rattle.tree.specs.declared.Resolved.{Resolved}

-- the first of the mnemonics has no star
first_mnemonic : {first : List ℕ} {words rest : List (List ℕ)} {text : List ℕ} → Joined words text → words ≡ first ∷ rest → Mnemonic first
first_mnemonic {first} (last {w} m) e = let z : w ≡ first = cc in rw z at m
first_mnemonic {first} (before {w} m j) e = let z : w ≡ first = cc in rw z at m

no_star : (w : List ℕ) → Mnemonic w → stands_at 42 w 0 ≡ false
unfolding stands_at is_letter is_capital is_small
no_star w m =
    both_ways (ltb 0 (length w) && eqb (get_or w 0 0) 42) false
    (λ h. rw (eqb-true (get_or w 0 0) 42 (and_right (ltb 0 (length w)) _ h)) at m.begins) (λ h. clash h refl)

-- a well-formed header, read from its branch
module _ (t names : List ℕ) (b : ℕ) (s : List ℕ) (words : List (List ℕ)) (query : Bool) (ok : Tree t names) (m : branch t b ≡ true) where
  -- what the header is answered, and what the whole text is
  record Heard (start : ℕ) (r : Result Header ErrorCode) : Type 0 where
    last : ℕ
    outcome : Outcome t names query Stop.Text last start start words r

  -- from the branch itself
  heard_plain : WellFormed s false words query → {r : Result Header ErrorCode} → Begins t names s b (seen_at s of_message) r → Heard b r
  heard_plain f g = from_here (began_at m x.there g)
    where
      x : Said s words query of_message
      x = let z = reads s false words query f in said z.2 z.1

      plain_word : is_common s x.view ≡ false
      plain_word = rw x.shows (no_star x.first (first_mnemonic f.joins x.parts))

      from_here : {r : Result Header ErrorCode} → Began t names s b (seen_at s of_message) (ahead.Word x.view) r → Heard b r
      from_here (starred c y) = clash c plain_word
      from_here (plain c y) = record { last = x.last; outcome = heard ok (from_there x) y }

  -- from the root, behind a colon
  from_colon : {r : Result Header ErrorCode} → Said s words query (seen_at s of_message).state → Began t names s b (seen_at s of_message) ahead.Colon r → Heard 0 r
  from_colon x (at_root y) = record { last = x.last; outcome = heard ok (from_there x) y }

  by_tokens : {tokens : List Token} {r : Result Header ErrorCode} → Tokens s of_message (HeaderMnemonicSeparator ∷ tokens) → Shown s words query tokens
      → Begins t names s b (seen_at s of_message) r → Heard 0 r
  unfolding seen_at
  by_tokens (next e y) o g = from_colon (said o y) (began_at m (token_seen s of_message e) g)

  heard_so : (rooted : Bool) → WellFormed s rooted words query → {r : Result Header ErrorCode} → Begins t names s b (seen_at s of_message) r → Heard (cond rooted 0 b) r
  heard_so false f g = heard_plain f g
  heard_so true f g = let z = reads s true words query f in by_tokens z.1 z.2 g

-- what an answer is, told by routes
data Final {A : Type 0} (found : ℕ → ℕ → A) (no : A) (t names : List ℕ) (b : ℕ) (words : List (List ℕ)) : A → Type 0 where
  leads : {c kept : ℕ} → Leads t names b words c kept → Final found no t names b words (found c kept)
  fails : ((c kept : ℕ) → Leads t names b words c kept → ⊥) → Final found no t names b words no

-- a way to say an answer that tells what was said
record Telling {A : Type 0} (found : ℕ → ℕ → A) (no : A) : Type 0 where
  same : {c c' kept kept' : ℕ} → found c kept ≡ found c' kept' → (c ≡ c') × (kept ≡ kept')
  never : {c kept : ℕ} → found c kept ≡ no → ⊥

module _ {A : Type 0} (found : ℕ → ℕ → A) (no : A) (tell : Telling found no) (t names : List ℕ) (b : ℕ) (words : List (List ℕ)) (ok : Tree t names) where
  one_lead : {c c' kept kept' : ℕ} → Leads t names b words c kept → Leads t names b words c' kept' → (c ≡ c') × (kept ≡ kept')
  one_lead x y =
      let z = unique t names ok x.route y.route in
      (sym x.command ∙ ap (λ (k : ℕ). command_number (get_or t k 0)) z.1 ∙ y.command, z.2)

  is_lead : {r : A} → Final found no t names b words r → (c kept : ℕ) → r ≡ found c kept → Leads t names b words c kept
  is_lead (leads x) c kept e = let z = tell.same e in rw (z.0, z.1) at x
  is_lead (fails n) c kept e = absurd (tell.never (sym e))

  gets : {r : A} → Final found no t names b words r → (c kept : ℕ) → Leads t names b words c kept → r ≡ found c kept
  gets (leads x) c kept y = let z = one_lead x y in rw (z.0, z.1)
  gets (fails n) c kept y = absurd (n c kept y)

  no_lead : {r : A} → Final found no t names b words r → r ≡ no → (c kept : ℕ) → Leads t names b words c kept → ⊥
  no_lead (leads x) e = absurd (tell.never e)
  no_lead (fails n) e = n

  is_undefined : {r : A} → Final found no t names b words r → ((c kept : ℕ) → Leads t names b words c kept → ⊥) → r ≡ no
  is_undefined (leads {c} {kept} x) n = absurd (n c kept x)
  is_undefined (fails _) n = refl

  one_of : {r : A} → Final found no t names b words r → ((c : ℕ) × (kept : ℕ) × (r ≡ found c kept)) ⊎ (r ≡ no)
  one_of (leads {c} {kept} x) = inl (c, kept, refl)
  one_of (fails n) = inr refl

  routed_so : {r : A} → Final found no t names b words r → Routed found no t names b words r
  routed_so x =
      record {
        command = λ c kept. (is_lead x c kept, gets x c kept);
        one_route = λ stages stages' leaf leaf' kept kept' y z. unique t names ok y z;
        undefined = (no_lead x, is_undefined x);
        either = one_of x;
      }

-- a header's answer, and that of resolution alone, tell what they say

of_ok : {A E : Type 0} {x y : A} → ◌≡◌ {A = Result A E} (Ok x) (Ok y) → x ≡ y
of_ok e = cc

header_tells : (query : Bool) (end : Stop) (place : ℕ) → Telling {A = Result Header ErrorCode} (λ c kept. Ok (record { command = c; query = query; branch = kept; stop = end; place = place })) (Err UndefinedHeader)
header_tells query end place =
    record { same = λ e. (ap (λ (h : Header). h.command) (of_ok e), ap (λ (h : Header). h.branch) (of_ok e)); never = λ e. let z : ◌≡◌ {A = ℕ} 0 1 = cc in omega arith }

alone_tells : (query : Bool) → Telling {A = Result Resolved ErrorCode} (λ c kept. Ok (record { command = c; query = query; branch = kept })) (Err UndefinedHeader)
alone_tells query =
    record { same = λ e. (ap (λ (h : Resolved). h.command) (of_ok e), ap (λ (h : Resolved). h.branch) (of_ok e)); never = λ e. let z : ◌≡◌ {A = ℕ} 0 1 = cc in omega arith }

-- a header that is heard, and the whole text that it is
module _ (t names : List ℕ) (words : List (List ℕ)) (query : Bool) where
  of_header : {b : ℕ} {r : Result Header ErrorCode} {x : Stop} {place : ℕ} → Outcome t names query x place b b words r
      → Final (λ c kept. Ok (record { command = c; query = query; branch = kept; stop = x; place = place })) (Err UndefinedHeader) t names b words r
  of_header (routed {stages} {leaf} {kept} x) = leads (record { stages = stages; leaf = leaf; route = x; command = refl })
  of_header (lost l) = fails (λ c kept x. l x.stages x.leaf kept x.route)

  abbrev Alone : ℕ → Result Resolved ErrorCode → Type 0
  Alone b = Final (λ c kept. Ok (record { command = c; query = query; branch = kept })) (Err UndefinedHeader) t names b words

  final_of : {b : ℕ} {r : Result Header ErrorCode} {place : ℕ} → Outcome t names query Stop.Text place b b words r → Alone b (closing r)
  final_of (routed {stages} {leaf} {kept} x) = leads (record { stages = stages; leaf = leaf; route = x; command = refl })
  final_of (lost l) = fails (λ c kept x. l x.stages x.leaf kept x.route)

  module _ (b : ℕ) (s : List ℕ) (ok : Tree t names) (m : branch t b ≡ true) (rooted : Bool) (f : WellFormed s rooted words query) where
    final : {r : Result Resolved ErrorCode} → Resolves t names b s r → Alone (cond rooted 0 b) r
    final (no_branch l) = clash m l
    final (too_long l h) = absurd (omega (arith, f.fits))
    final (one_header l h g) = let z = heard_so t names b s words query ok m rooted f g in final_of z.outcome

answers : (t names : List ℕ) (b : ℕ) (words : List (List ℕ)) (query : Bool) → Tree t names → {r : Result Resolved ErrorCode}
    → Final (λ c kept. Ok (record { command = c; query = query; branch = kept })) (Err UndefinedHeader) t names b words r → Answers t names b words query r
answers t names b words query ok = routed_so _ _ (alone_tells query) t names b words ok

anywhere : (t names : List ℕ) (b : ℕ) (s : List ℕ) (at : State) (rooted : Bool) (words : List (List ℕ)) (query : Bool) (x : Stop) (behind : ℕ) (r : Result Header ErrorCode)
    → Accepted t names → branch t b ≡ true → Spoken s x behind words query at rooted → Begins t names s b (seen_at s at) r
    → Routed (λ c kept. Ok (record { command = c; query = query; branch = kept; stop = x; place = behind })) (Err UndefinedHeader) t names (cond rooted 0 b) words r
anywhere t names b s at rooted words query x behind r a m y g =
    let ok = (table.claims).accepted t names a in
    routed_so _ _ (header_tells query x behind) t names (cond rooted 0 b) words ok (of_header t names words query (go ok y))
  where
    go : Tree t names → {rooted : Bool} → Spoken s x behind words query at rooted → Outcome t names query x behind (cond rooted 0 b) (cond rooted 0 b) words r
    go ok (spoken.from_branch {v} e f h) = plainly (began_at m e g)
      where
        plainly : {q : Result Header ErrorCode} → Began t names s b (seen_at s at) (ahead.Word v) q → Outcome t names query x behind b b words q
        plainly (starred c z) = clash c f
        plainly (plain c z) = heard ok h z
    go ok (spoken.from_root e h) = rooted_so (began_at m e g)
      where
        rooted_so : {q : Result Header ErrorCode} → Began t names s b (seen_at s at) ahead.Colon q → Outcome t names query x behind 0 0 words q
        rooted_so (at_root z) = heard ok h z

common_anywhere : (t names : List ℕ) (b : ℕ) (s : List ℕ) (at : State) (v : View) (words : List (List ℕ)) (query : Bool) (x : Stop) (behind : ℕ) (r : Result Header ErrorCode)
    → Accepted t names → branch t b ≡ true → (seen_at s at).ahead ≡ ahead.Word v → is_common s v ≡ true → Hears s x behind words query (seen_at s at)
    → Begins t names s b (seen_at s at) r
    → (a : Result Header ErrorCode) × Routed (λ c kept. Ok (record { command = c; query = query; branch = kept; stop = x; place = behind })) (Err UndefinedHeader) t names 0 words a × (r ≡ keeping b a)
common_anywhere t names b s at v words query x behind r a m e star h g = go (began_at m e g)
  where
    ok : Tree t names
    ok = (table.claims).accepted t names a

    go : {q : Result Header ErrorCode} → Began t names s b (seen_at s at) (ahead.Word v) q
        → (a : Result Header ErrorCode) × Routed (λ c kept. Ok (record { command = c; query = query; branch = kept; stop = x; place = behind })) (Err UndefinedHeader) t names 0 words a × (q ≡ keeping b a)
    go (starred c z) = (_, routed_so _ _ (header_tells query x behind) t names 0 words ok (of_header t names words query (heard ok h z)), refl)
    go (plain c z) = clash star c

demand : (t names : List ℕ) (b : ℕ) (s : List ℕ) (rooted : Bool) (words : List (List ℕ)) (query : Bool) (r : Result Resolved ErrorCode)
    → Accepted t names → branch t b ≡ true → WellFormed s rooted words query → ResolvesAlone t names b s r → Answers t names (cond rooted 0 b) words query r
demand t names b s rooted words query r a m f x =
    let ok = (table.claims).accepted t names a in
    answers t names (cond rooted 0 b) words query ok (final t names words query b s ok m rooted f (past_check a x))

-- a common command

-- a word of 12 characters, and its form, have not 65,535
short_text : (w : List ℕ) → length w ≤ 12 → (q : Bool) → length (w ++ cond q (ascii "?") []) ≤ 65535
short_text w l false = omega (arith, length-append w [])
short_text w l true = omega (arith, length-append w (ascii "?"))

star_first : (s word : List ℕ) (query : Bool) → Common s word query → {first : List ℕ} {rest : List (List ℕ)} → ◌≡◌ {A = List (List ℕ)} (word ∷ []) (first ∷ rest)
    → stands_at 42 first 0 ≡ true
unfolding stands_at
star_first s word query f {first} e =
    let z : first ≡ 42 ∷ f.mnemonic = cc in
    rw (z, lt-ltb 0 (suc (length f.mnemonic)) (omega arith))

module _ (t names : List ℕ) (b : ℕ) (s word : List ℕ) (query : Bool) (ok : Tree t names) (m : branch t b ≡ true) (f : Common s word query) where
  -- as from the root, with the branch b kept
  abbrev Kept : Result Resolved ErrorCode → Type 0
  Kept r = (a : Result Resolved ErrorCode) × Answers t names 0 (word ∷ []) query a × (r ≡ with_branch b a)

  kept_so : {r : Result Header ErrorCode} {place : ℕ} → Outcome t names query Stop.Text place 0 0 (word ∷ []) r → closing (keeping b r) ≡ with_branch b (closing r)
  kept_so (routed x) = refl
  kept_so (lost l) = refl

  x : Said s (word ∷ []) query of_message
  x = let z = reads_common s word query f in said z.2 z.1

  starred_word : is_common s x.view ≡ true
  starred_word = rw x.shows (star_first s word query f x.parts)

  heard_common : {r : Result Header ErrorCode} → Began t names s b (seen_at s of_message) (ahead.Word x.view) r → Kept (closing r)
  heard_common (starred {r = r} c y) =
      let o = heard ok (from_there x) y in
      (closing r, answers t names 0 (word ∷ []) query ok (final_of t names (word ∷ []) query o), kept_so o)
  heard_common (plain c y) = clash starred_word c

  common_so : {r : Result Resolved ErrorCode} → Resolves t names b s r → Kept r
  common_so (no_branch l) = clash m l
  common_so (too_long l h) = absurd (omega (arith, common_fits))
    where
      common_fits : length s ≤ 65535
      common_fits = rw f.text (short_text word f.short query)
  common_so (one_header l h g) = heard_common (began_at m x.there g)

some_resolves : (t names : List ℕ) (b : ℕ) (s : List ℕ) → (r : Result Resolved ErrorCode) × Resolves t names b s r
some_resolves t names b s = go (branch t b) refl (less_or_not 65535 (length s))
  where
    go : (c : Bool) → branch t b ≡ c → (65535 < length s) ⊎ (length s ≤ 65535) → (r : Result Resolved ErrorCode) × Resolves t names b s r
    go false m l = (_, no_branch m)
    go true m (inl l) = (_, too_long m l)
    go true m (inr l) = let z = (header.claims).some_answer t names s b (seen_at s of_message) in (_, one_header m l z.1)

pub claims : Claims
claims =
    record {
      demand = demand;
      anywhere = anywhere;
      common_anywhere = common_anywhere;
      common = λ t names b s word query r a m f x. common_so t names b s word query ((table.claims).accepted t names a) m f (past_check a x);
      reads = reads;
      unchecked = λ t names b s. unchecked;
      some_unchecked = some_resolves;
      one_alone = λ t names b s. one_alone;
      one_unchecked = λ t names b s. one_resolves;
    }
