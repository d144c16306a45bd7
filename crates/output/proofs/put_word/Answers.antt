use Rattle.std.proofs.Common.{arith, refl, ◌∙◌}
use Rattle.std.proofs.lemmas.Slice.{put_mid-paste}
use Rattle.output.proofs.Fits.{fitted, unfit}
use Rattle.output.proofs.put_word.Goals as goal

pub returns-in_default : goal.returns-in_default
returns-in_default c = unfit c.args.out.now c.args.n c.args.w.now (omega arith)

pub returns : goal.returns
returns c =
    let f = fitted c.args.out.now c.args.n c.args.w.now (omega arith) in
    (omega arith ∙ f.0, put_mid-paste _ _ _ _ _ _ c.copy_from_slice.ensures.after (omega arith) refl ∙ f.1)
