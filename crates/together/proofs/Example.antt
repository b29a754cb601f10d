-- The worked message.
use Rattle.std.specs.Prelude.{Result, Ok}
use Prim.Native.Nat.{ℕ}
use mathlib.Core.Path.{◌≡◌, refl, ap, subst, ◌∙◌}
use mathlib.Core.List.{List, [], ◌∷◌}
use mathlib.Core.Bool.{Bool, true, false, cond}
use borrow.Author.Tests.{leb-true}
use Rattle.kind.specs.{Text.ascii, Kind.kind_of}
use Rattle.kind.specs.Class.{is_ascii, is_capital, is_small, is_digit, is_letter, in_mnemonic, is_white_space, is_sign, is_quote}
use Rattle.util.specs.Run.{run, run_end, stands_at, every}
use Rattle.node.specs.{Word.is_branch, Tree.branch}
use Rattle.token.specs.View.{view_of, part_of}
use Rattle.item.specs.{Word.star_end, Word.mnemonic, Follow.ends_data, Follow.followed}
use Rattle.enclosed.specs.Expression.{in_expression, bracketed, expression_data}
use Rattle.separator.specs.Separator.{colon_to, follows_colon, question_to, follows_query}
use Rattle.tokenizer.specs.Step.{state_of, taken, refusal, ended, read_as, passed, colon_before, question_before, word_at, by_kind, step, of_message}
use Rattle.tokenizer.specs.declared.State.{State}
use Rattle.ahead.specs.{Seen.seen_at, declared.Stop.Stop}
use Rattle.header.specs.Header.{turn_of, behind_colon, keeping, Begins}
use Rattle.units.proofs.HeaderClaims as headers
use Rattle.routes.specs.{Route.Leads, Heard.Spoken, Worked.nodes, Worked.names}
use Rattle.routes.specs.Heard as heard
use Rattle.routes.proofs.RouteClaims as trees
use Rattle.routes.proofs.Worked.{worked}
use Rattle.items.specs.Entry.{met_at}
use Rattle.items.specs.Items as items
use Rattle.unit.specs.Unit.{separated, at_unit, at_end, whole}
use Rattle.message.specs.Message.{none, next, text}
use Rattle.together.specs.Example.{example, Worked}
use Rattle.error.specs.declared.ErrorCode.{ErrorCode}
use Rattle.header.specs.declared.Header.{Header}

-- what the routes say of a header is what it is answered
begins_by : (at : State) (rooted : Bool) (words : List (List ℕ)) (query : Bool) (end : Stop) (behind b c kept : ℕ) → branch nodes b ≡ true
    → Spoken example end behind words query at rooted → Leads nodes names (cond rooted 0 b) words c kept
    → Begins nodes names example b (seen_at example at) (Ok (record { command = c; query = query; branch = kept; stop = end; place = behind }))
begins_by at rooted words query end behind b c kept m x l =
    let z = (headers.claims).some_answer nodes names example b (seen_at example at) in
    let e = (((trees.claims).anywhere nodes names b example at rooted words query end behind z.0 worked.accepted m x z.1).command c kept).1 l in
    subst (λ (r : Result Header ErrorCode). Begins nodes names example b (seen_at example at) r) e z.1

-- the headers as they are heard

closes : Spoken example Stop.Separator 10 (ascii "ROUT" ∷ ascii "CLOS" ∷ []) false of_message false
unfolding seen_at turn_of behind_colon step by_kind read_as passed colon_before question_before word_at taken refusal ended kind_of mnemonic star_end colon_to follows_colon question_to follows_query part_of run run_end stands_at every is_white_space is_capital is_small is_digit is_letter in_mnemonic is_sign is_quote
closes = heard.from_branch refl refl (heard.word refl refl (heard.word refl refl (heard.stop refl refl)))

opens : Spoken example Stop.Separator 26 (ascii "OPEN" ∷ []) false (state_of 21 true false) false
unfolding seen_at turn_of behind_colon step by_kind read_as passed colon_before question_before word_at taken refusal ended kind_of mnemonic star_end colon_to follows_colon question_to follows_query part_of run run_end stands_at every is_white_space is_capital is_small is_digit is_letter in_mnemonic is_sign is_quote
opens = heard.from_branch refl refl (heard.word refl refl (heard.stop refl refl))

identifies : Begins nodes names example 2 (seen_at example (state_of 31 true false)) (Ok (record { command = 1; query = true; branch = 2; stop = Stop.Unit; place = 37 }))
unfolding seen_at turn_of behind_colon step by_kind read_as passed colon_before question_before word_at taken refusal ended kind_of mnemonic star_end colon_to follows_colon question_to follows_query part_of run run_end stands_at every is_white_space is_capital is_small is_digit is_letter in_mnemonic is_sign is_quote is_branch
identifies =
    let z = (headers.claims).some_answer nodes names example 2 (seen_at example (state_of 31 true false)) in
    let y =
    (trees.claims).common_anywhere nodes names 2 example (state_of 31 true false) (view_of 31 35) (ascii "*IDN" ∷ []) true Stop.Unit 37 z.0 worked.accepted refl refl refl
    (heard.word refl refl (heard.asked refl refl refl)) z.1 in
    subst (λ (r : Result Header ErrorCode). Begins nodes names example 2 (seen_at example (state_of 31 true false)) r) (y.2 ∙ ap (keeping 2) ((y.1.command 1 0).1 worked.identify)) z.1

asks : Spoken example Stop.Text 43 (ascii "VOLT" ∷ []) true (state_of 37 true false) true
unfolding seen_at turn_of behind_colon step by_kind read_as passed colon_before question_before word_at taken refusal ended kind_of mnemonic star_end colon_to follows_colon question_to follows_query part_of run run_end stands_at every is_white_space is_capital is_small is_digit is_letter in_mnemonic is_sign is_quote
asks = heard.from_root refl (heard.word refl refl (heard.asked refl refl refl))

-- the items

first_list : items.Items example (state_of 10 false false) (Ok (record { count = 1; place = 21 }))
unfolding met_at step by_kind read_as taken refusal ended kind_of expression_data bracketed in_expression followed ends_data run run_end stands_at is_white_space is_capital is_small is_digit is_letter is_sign is_quote is_ascii
first_list = items.some refl (items.ended refl)

second_list : items.Items example (state_of 26 false false) (Ok (record { count = 1; place = 31 }))
unfolding met_at step by_kind read_as taken refusal ended kind_of expression_data bracketed in_expression followed ends_data run run_end stands_at is_white_space is_capital is_small is_digit is_letter is_sign is_quote is_ascii
second_list = items.some refl (items.ended refl)

pub worked_message : Worked
unfolding seen_at turn_of behind_colon step by_kind read_as passed colon_before question_before word_at taken refusal ended kind_of mnemonic star_end colon_to follows_colon question_to follows_query part_of run run_end stands_at every is_white_space is_capital is_small is_digit is_letter in_mnemonic is_sign is_quote is_branch
worked_message =
    record {
      message =
          text refl (leb-true 43 65535 refl)
          (next refl (whole (begins_by of_message false _ false _ _ 0 3 2 refl closes worked.route_close) (separated first_list))
          (next refl (whole (begins_by (state_of 21 true false) false _ false _ _ 2 4 2 refl opens worked.open_from_route) (separated second_list))
          (next refl (whole identifies at_unit)
          (next refl (whole (begins_by (state_of 37 true false) true _ true _ _ 2 6 3 refl asks worked.voltage) at_end)
          (none refl)))));
    }
