use Rattle.std.proofs.Common.{arith, rules, refl, ◌∙◌, ◌≡◌, length}
use Rattle.std.proofs.lemmas.Slice.{put_mid-paste}
use Rattle.output.specs.Digits.{last_digits}
use Rattle.output.proofs.Fits.{fitted, unfit, digits_length}
use Rattle.output.proofs.put_decimal.Goals as goal

pub returns-in_default : goal.returns-in_default
returns-in_default c =
    let k = c.digit_count.result in
    let l = digits_length k c.args.x in
    let f = unfit c.args.out.now c.args.n (last_digits 10 k c.args.x) (omega arith) in
    record { k = k; fewest = c.digit_count.ensures; place = f.0; bytes = f.1 }

pub returns : goal.returns
returns c =
    let k = c.digit_count.result in
    let w = last_digits 10 k c.args.x in
    let l = digits_length k c.args.x in
    let f = fitted c.args.out.now c.args.n w (omega arith) in
    let same : c.put_digits.new.out ≡ w = c.put_digits.ensures k (search rules) in
    record { k = k; fewest = c.digit_count.ensures; place = omega arith ∙ f.0; bytes = put_mid-paste _ _ _ _ w (length w) same (omega arith) refl ∙ f.1 }
