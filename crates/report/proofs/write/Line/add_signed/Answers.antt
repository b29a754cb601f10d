use Rattle.std.proofs.Common.{arith, ◌∙◌}
use Rattle.report.proofs.Signs.{wide_size', minus', plus'}
use Rattle.report.proofs.write.Line.add_signed.Goals as goal
use Rattle.report.proofs.write.Line.add_signed.Goals.{then-n-lt0, else-n-lt0}

pub returns : goal.returns
returns c =
    let size = wide_size' c.args.n c.ranges.n _ _ c.from.ensures c.magnitude.ensures in
    elim c.if-n-lt0.branch [
      | then-n-lt0 w ↦
          let number = rw w.self-is at c.add_number.ensures in
          let sign = w.add.ensures in
          ((minus' c.args.n c.ranges.n _ _ _ _ _ size _ _ w.if-n-lt0.true sign.0.0 number.0.0, number.0.1 ∙ sign.0.1), omega arith)
      | else-n-lt0 w ↦
          let number = rw w.self-is at c.add_number.ensures in
          ((plus' c.args.n c.ranges.n _ _ _ _ _ size w.if-n-lt0.false number.0.0, number.0.1), omega arith)
    ]
