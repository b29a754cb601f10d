-- The token step reads a well-formed header as its mnemonics.
use Prim.Native.Nat.{ℕ, suc, ◌+◌, ◌-◌, ◌≤◌, ◌<◌}
use mathlib.Core.Path.{◌≡◌, refl, sym, ap, ◌∙◌}
use mathlib.Core.Logic.{⊎_elim}
use mathlib.Core.List.{List, [], ◌∷◌, ◌++◌, append_assoc}
use mathlib.Core.Bool.{Bool, true, false, cond, ◌||◌, false≢true}
use native.Mathlib.Omega.{arith}
use lib.Dec.{leb}
use lib.ListN.{length, get_or, drop, length-append}
use lib.Seq.{take-append_seam}
use borrow.Author.Tests.{le-leb}
use Rattle.kind.specs.{Text.ascii, Kind.kind_of}
use Rattle.kind.specs.declared.Kind.TheVariants as kind
use Rattle.kind.specs.Class.{is_white_space, is_capital, is_small, is_digit, is_letter, in_mnemonic}
use Rattle.kind.proofs.Tests.{or_right}
use Rattle.util.specs.Run.{run_end, every}
use Rattle.token.specs.{View.view_of, View.part_of, declared.View.View, declared.Token.Token}
use Rattle.token.specs.declared.Token.TheVariants.{HeaderMnemonicSeparator, HeaderQuerySuffix, ProgramMnemonic}
use Rattle.item.specs.{Follow.token, Word.star_end, Word.mnemonic}
use Rattle.item.proofs.Words.{star_there', star_none'}
use Rattle.forms.proofs.ItemSeams.{here_get, here_inside, here_next, here_run, here_length}
use Rattle.separator.specs.Separator.{follows_colon, colon_to, follows_query, question_to}
use Rattle.tokenizer.specs.Step.{state_of, of_message, taken, read_as, passed, colon_before, question_before, word_at, step}
use Rattle.tokenizer.specs.{declared.State.State, declared.Step.Step}
use Rattle.tokenizer.specs.declared.Answer.TheVariants as answer
use Rattle.tokenizer.proofs.Starts.{letter_kind}
use Rattle.tokenizer.proofs.Steps.{end', star', colon', question', small', capital'}
use Rattle.routes.specs.WellFormed.{Mnemonic, Joined, last, before, WellFormed, Common, Tokens, no_more, next, Shown, event, query, then}

-- the state in a header, at a place
abbrev in_header_at : ℕ → State
in_header_at p = state_of p true false

module _ (s : List ℕ) (p : ℕ) where
  -- a word, and behind it what is not of a word
  module _ (w y : List ℕ) (m : Mnemonic w) (h : drop p s ≡ w ++ y) (n : in_mnemonic (get_or y 0 0) ≡ false) where
    begins_here : (b : ℕ) (x : List ℕ) → w ≡ b ∷ x → (p < length s) × (get_or s p 0 ≡ b) × (is_letter b ≡ true)
    begins_here b x e =
        let k : drop p s ≡ b ∷ (x ++ y) = rw e at h in
        (here_inside s p b (x ++ y) k, here_get s p (b ∷ (x ++ y)) k, rw e at m.begins)

    letter_here : (p < length s) × (is_letter (get_or s p 0) ≡ true)
    unfolding is_letter is_capital is_small
    letter_here = go w refl
      where
        go : (x : List ℕ) → w ≡ x → (p < length s) × (is_letter (get_or s p 0) ≡ true)
        go [] e = absurd (false≢true (rw e at m.begins))
        go (b ∷ x) e = let z = begins_here b x e in (z.0, rw z.1 z.2)

    no_star : get_or s p 0 ≡ 42 → ⊥
    unfolding is_letter is_capital is_small
    no_star e = false≢true (rw e at letter_here.1)

    mnemonic_here : mnemonic s p ≡ token (ProgramMnemonic (view_of p (p + length w))) (p + length w)
    unfolding mnemonic
    mnemonic_here =
        rw (← star_none' s p letter_here.0 no_star, here_run s p w y h in_mnemonic m.all n, le-leb (p + length w - p) 12 (omega (arith, m.short)))

    word_here : word_at s (in_header_at p) p ≡ taken (ProgramMnemonic (view_of p (p + length w))) (p + length w) true false
    unfolding word_at read_as
    word_here = rw mnemonic_here

    pub word_step : step s (in_header_at p) ≡ taken (ProgramMnemonic (view_of p (p + length w))) (p + length w) true false
    word_step =
        ⊎_elim (λ k. sym (small' s (in_header_at p) letter_here.0 _ refl _ k (sym word_here))) (λ k. sym (capital' s (in_header_at p) letter_here.0 _ refl _ k (sym word_here)))
        (letter_kind (get_or s p 0) letter_here.1)

    pub word_part : part_of s (view_of p (p + length w)) ≡ w
    unfolding part_of
    word_part =
        let k : p + length w - p ≡ length w = omega arith in
        let l = here_length s p (w ++ y) h in
        rw (le-leb (p + length w) (length s) (omega (arith, l, length-append w y, letter_here.0)), le-leb p (p + length w) (omega arith), k, h) (take-append_seam w y)

  colon_well : (y : List ℕ) → drop p s ≡ 58 ∷ y → is_letter (get_or y 0 0) ≡ true → colon_before s (in_header_at p) (p + 1) ≡ taken HeaderMnemonicSeparator (p + 1) true false
  unfolding colon_before passed colon_to follows_colon
  colon_well y h e =
      let l : is_letter (get_or s (p + 1) 0) ≡ true = rw (here_get s (p + 1) y (here_next s p (58 ∷ []) y h)) e in
      let f : (leb (length s) (p + 1) || is_letter (get_or s (p + 1) 0)) ≡ true = or_right (leb (length s) (p + 1)) l in
      rw f

  colon_kind : (y : List ℕ) → drop p s ≡ 58 ∷ y → kind_of (get_or s p 0) ≡ kind.Colon
  unfolding kind_of is_white_space
  colon_kind y h = rw (here_get s p (58 ∷ y) h)

  pub colon_step : (y : List ℕ) → drop p s ≡ 58 ∷ y → is_letter (get_or y 0 0) ≡ true → step s (in_header_at p) ≡ taken HeaderMnemonicSeparator (p + 1) true false
  colon_step y h e = sym (colon' s (in_header_at p) (here_inside s p 58 y h) _ refl _ (colon_kind y h) (sym (colon_well y h e)))

  module _ (common : Bool) (h : drop p s ≡ 63 ∷ []) where
    question_well : question_before s (state_of p true common) (p + 1) ≡ taken HeaderQuerySuffix (p + 1) false common
    unfolding question_before passed question_to follows_query
    question_well = rw (le-leb (length s) (p + 1) (omega (arith, here_length s p (63 ∷ []) h)))

    question_kind : kind_of (get_or s p 0) ≡ kind.Question
    unfolding kind_of is_white_space
    question_kind = rw (here_get s p (63 ∷ []) h)

    pub question_step : step s (state_of p true common) ≡ taken HeaderQuerySuffix (p + 1) false common
    question_step = sym (question' s (state_of p true common) (here_inside s p 63 [] h) _ refl _ question_kind (sym question_well))

  -- a star, a word, and behind it what is not of a word
  module _ (x y : List ℕ) (h : drop p s ≡ 42 ∷ (x ++ y)) (all : every in_mnemonic x ≡ true) (short : length x ≤ 11) (n : in_mnemonic (get_or y 0 0) ≡ false) where
    star_here : star_end s p ≡ p + 1
    star_here = sym (star_there' s p (here_inside s p 42 (x ++ y) h) (here_get s p (42 ∷ (x ++ y)) h))

    star_run : run_end in_mnemonic s (p + 1) ≡ p + 1 + length x
    star_run = here_run s (p + 1) x y (here_next s p (42 ∷ []) (x ++ y) h) in_mnemonic all n

    star_mnemonic : mnemonic s p ≡ token (ProgramMnemonic (view_of p (p + 1 + length x))) (p + 1 + length x)
    unfolding mnemonic
    star_mnemonic = rw (star_here, star_run, le-leb (p + 1 + length x - p) 12 (omega arith))

    star_kind : kind_of (get_or s p 0) ≡ kind.Star
    unfolding kind_of is_white_space
    star_kind = rw (here_get s p (42 ∷ (x ++ y)) h)

    star_read : read_as s (in_header_at p) true (mnemonic s p) ≡ taken (ProgramMnemonic (view_of p (p + 1 + length x))) (p + 1 + length x) true true
    unfolding read_as
    star_read = rw star_mnemonic

    pub star_step : step s (in_header_at p) ≡ taken (ProgramMnemonic (view_of p (p + 1 + length x))) (p + 1 + length x) true true
    star_step = sym (star' s (in_header_at p) (here_inside s p 42 (x ++ y) h) _ refl _ star_kind (sym star_read))

    pub star_part : part_of s (view_of p (p + 1 + length x)) ≡ 42 ∷ x
    unfolding part_of
    star_part =
        let k : p + 1 + length x - p ≡ suc (length x) = omega arith in
        let l = here_length s p (42 ∷ (x ++ y)) h in
        let i = here_inside s p 42 (x ++ y) h in
        rw (le-leb (p + 1 + length x) (length s) (omega (arith, l, length-append x y, i)), le-leb p (p + 1 + length x) (omega arith), k, h)
        (ap (λ (z : List ℕ). 42 ∷ z) (take-append_seam x y))

  -- nothing is left
  pub at_end : drop p s ≡ [] → (header common : Bool) → (step s (state_of p header common)).answer ≡ answer.End
  at_end h header common = ap (λ (x : Step). x.answer) (sym (end' s (state_of p header common) (omega (arith, here_length s p [] h))))

colon_none : in_mnemonic 58 ≡ false
unfolding in_mnemonic is_letter is_capital is_small is_digit
colon_none = refl

-- a text that begins with a mnemonic begins with a letter
first_letter : (w y : List ℕ) → Mnemonic w → is_letter (get_or (w ++ y) 0 0) ≡ true
unfolding is_letter is_capital is_small
first_letter [] y m = absurd (false≢true m.begins)
first_letter (b ∷ w) y m = m.begins

-- the tokens of what stands from a place on

module _ (s : List ℕ) where
  -- a step that takes a token, and what is behind it
  on : (st : State) (t : Token) (p : ℕ) (header common : Bool) (tokens : List Token) → step s st ≡ taken t p header common → Tokens s (state_of p header common) tokens
      → Tokens s st (t ∷ tokens)
  unfolding taken
  on st t p header common tokens e x = next {tokens = tokens} (ap (λ (z : Step). z.answer) e) (rw e x)

  -- behind the last mnemonic
  form_tokens : (q : Bool) (p : ℕ) (common : Bool) → drop p s ≡ cond q (ascii "?") [] → Tokens s (state_of p true common) (cond q (HeaderQuerySuffix ∷ []) [])
  form_tokens false p common h = no_more (at_end s p h true common)
  form_tokens true p common h =
      on (state_of p true common) HeaderQuerySuffix (p + 1) false common [] (question_step s p common h)
      (no_more (at_end s (p + 1) (here_next s p (63 ∷ []) [] h) false common))

  shown : (q : Bool) (w : List ℕ) (v : View) → part_of s v ≡ w → Shown s (w ∷ []) q (ProgramMnemonic v ∷ cond q (HeaderQuerySuffix ∷ []) [])
  shown false w v e = event e
  shown true w v e = query e

  -- a header's form begins with no character of a word
  form_none : (q : Bool) → in_mnemonic (get_or (cond q (ascii "?") []) 0 0) ≡ false
  unfolding in_mnemonic is_letter is_capital is_small is_digit
  form_none false = refl
  form_none true = refl

  joined_begins : {words : List (List ℕ)} {text : List ℕ} (y : List ℕ) → Joined words text → is_letter (get_or (text ++ y) 0 0) ≡ true
  joined_begins y (last m) = first_letter _ y m
  joined_begins y (before {w} {text} m j) = rw (append_assoc w (ascii ":" ++ text) y) (first_letter w _ m)

  word_tokens : (p : ℕ) (w y : List ℕ) → Mnemonic w → drop p s ≡ w ++ y → in_mnemonic (get_or y 0 0) ≡ false → (tokens : List Token)
      → Tokens s (in_header_at (p + length w)) tokens → Tokens s (in_header_at p) (ProgramMnemonic (view_of p (p + length w)) ∷ tokens)
  word_tokens p w y m h n tokens x =
      on (in_header_at p) (ProgramMnemonic (view_of p (p + length w))) (p + length w) true false tokens (word_step s p w y m h n) x

  joined_tokens : {words : List (List ℕ)} {text : List ℕ} (q : Bool) → Joined words text → (p : ℕ) → drop p s ≡ text ++ cond q (ascii "?") []
      → (tokens : List Token) × Tokens s (in_header_at p) tokens × Shown s words q tokens
  joined_tokens q (last {w} m) p h =
      let y = cond q (ascii "?") [] in (
        ProgramMnemonic (view_of p (p + length w)) ∷ cond q (HeaderQuerySuffix ∷ []) [],
        word_tokens p w y m h (form_none q) (cond q (HeaderQuerySuffix ∷ []) []) (form_tokens q (p + length w) false (here_next s p w y h)),
        shown q w (view_of p (p + length w)) (word_part s p w y m h (form_none q)),
      )
  joined_tokens q (before {w} {text} m j) p h =
      let y = cond q (ascii "?") [] in
      let k : drop p s ≡ w ++ (58 ∷ (text ++ y)) = h ∙ append_assoc w (ascii ":" ++ text) y in
      let n : in_mnemonic (get_or (58 ∷ (text ++ y)) 0 0) ≡ false = colon_none in
      let c : drop (p + length w) s ≡ 58 ∷ (text ++ y) = here_next s p w (58 ∷ (text ++ y)) k in
      let e = colon_step s (p + length w) (text ++ y) c (joined_begins y j) in
      let z = joined_tokens q j (p + length w + 1) (here_next s (p + length w) (58 ∷ []) (text ++ y) c) in (
        ProgramMnemonic (view_of p (p + length w)) ∷ HeaderMnemonicSeparator ∷ z.0,
        word_tokens p w (58 ∷ (text ++ y)) m k n (HeaderMnemonicSeparator ∷ z.0) (on (in_header_at (p + length w)) HeaderMnemonicSeparator (p + length w + 1) true false z.0 e z.1),
        then (word_part s p w (58 ∷ (text ++ y)) m k n) z.2,
      )

-- the tokens of a well-formed header are its mnemonics, behind a colon where there is one
pub reads : (s : List ℕ) (rooted : Bool) (words : List (List ℕ)) (q : Bool) → WellFormed s rooted words q
    → (tokens : List Token) × Tokens s of_message (cond rooted (HeaderMnemonicSeparator ∷ tokens) tokens) × Shown s words q tokens
reads s false words q f = joined_tokens s q f.joins 0 f.text
reads s true words q f =
    let y = f.mnemonics ++ cond q (ascii "?") [] in
    let z = joined_tokens s q f.joins 1 (here_next s 0 (58 ∷ []) y f.text) in
    (z.0, on s of_message HeaderMnemonicSeparator 1 true false z.0 (colon_step s 0 y f.text (joined_begins s (cond q (ascii "?") []) f.joins)) z.1, z.2)

-- the tokens of a common command
pub reads_common : (s word : List ℕ) (q : Bool) → Common s word q → (tokens : List Token) × Tokens s of_message tokens × Shown s (word ∷ []) q tokens
reads_common s word q f =
    let x = f.mnemonic in
    let y = cond q (ascii "?") [] in
    let h : drop 0 s ≡ 42 ∷ (x ++ y) = rw f.starred at f.text in
    let l : suc (length x) ≤ 12 = rw f.starred at f.short in
    let a = f.all in
    let n = form_none s q in
    let d : drop (0 + 1 + length x) s ≡ y = here_next s 1 x y (here_next s 0 (42 ∷ []) (x ++ y) h) in
    let v = view_of 0 (0 + 1 + length x) in (
      ProgramMnemonic v ∷ cond q (HeaderQuerySuffix ∷ []) [],
      on s of_message (ProgramMnemonic v) (0 + 1 + length x) true true (cond q (HeaderQuerySuffix ∷ []) []) (star_step s 0 x y h a (omega arith) n) (form_tokens s q (0 + 1 + length x) true d),
      shown s q word v (star_part s 0 x y h a (omega arith) n ∙ sym f.starred),
    )
