-- The claims.
use Rattle.util.proofs.Decided.{one_answer}
use Rattle.routes.specs.BranchClaims.{Claims}
use Rattle.branch.proofs.{Once.one_pick, Once.one_pick_in, Picks.picks_children}
use Rattle.units.proofs.HeaderSome.{some_pick}

pub claims : Claims
claims =
    record {
      some_pick = some_pick;
      one_pick = λ t b p. one_pick;
      one_pick_in = λ p from to. one_pick_in;
      one_child = λ t b k x y. one_answer;
      picks_children = picks_children;
    }
