-- `word_at` meets its contract: a word is told by its first byte. Assumes nothing.
use mathlib.Core.Path.{refl}
use native.Mathlib.Omega.{arith}
use Rattle.words.proofs.Stands.{told_true, told_false, told_nan, told_inf, told_neg_inf, told_none, told_end, rest_within}
use Rattle.words.proofs.word_at.Goals as goal

pub returns-then-s-p : goal.returns-then-s-p
returns-then-s-p c = record { word = told_end c.args.s.now c.args.p (omega arith); fits = tt }

pub returns-in-116 : goal.returns-in-116
returns-in-116 c =
    let e = c.if-starts_with.ensures in
    record { word = rw (← e.value) at (told_true c.args.s.now c.args.p (omega arith) c.in-116.is); fits = rest_within _ _ (e.bound refl) c.requires }

pub returns-in-102 : goal.returns-in-102
returns-in-102 c =
    let e = c.if-starts_with-2.ensures in
    record { word = rw (← e.value) at (told_false c.args.s.now c.args.p (omega arith) c.in-102.is); fits = rest_within _ _ (e.bound refl) c.requires }

pub returns-in-110 : goal.returns-in-110
returns-in-110 c =
    let e = c.if-starts_with-3.ensures in
    record { word = rw (← e.value) at (told_nan c.args.s.now c.args.p (omega arith) c.in-110.is); fits = rest_within _ _ (e.bound refl) c.requires }

pub returns-in-105 : goal.returns-in-105
returns-in-105 c =
    let e = c.if-starts_with-4.ensures in
    record { word = rw (← e.value) at (told_inf c.args.s.now c.args.p (omega arith) c.in-105.is); fits = rest_within _ _ (e.bound refl) c.requires }

pub returns-in-45 : goal.returns-in-45
returns-in-45 c =
    let e = c.if-starts_with-5.ensures in
    record { word = rw (← e.value) at (told_neg_inf c.args.s.now c.args.p (omega arith) c.in-45.is); fits = rest_within _ _ (e.bound refl) c.requires }

pub returns-in_default : goal.returns-in_default
returns-in_default c =
    let e = c.if-starts_with.ensures in
    record { word = rw (← e.value) at (told_true c.args.s.now c.args.p (omega arith) c.in-116.is); fits = tt }

pub returns-in_default-2 : goal.returns-in_default-2
returns-in_default-2 c =
    let e = c.if-starts_with-2.ensures in
    record { word = rw (← e.value) at (told_false c.args.s.now c.args.p (omega arith) c.in-102.is); fits = tt }

pub returns-in_default-3 : goal.returns-in_default-3
returns-in_default-3 c =
    let e = c.if-starts_with-3.ensures in
    record { word = rw (← e.value) at (told_nan c.args.s.now c.args.p (omega arith) c.in-110.is); fits = tt }

pub returns-in_default-4 : goal.returns-in_default-4
returns-in_default-4 c =
    let e = c.if-starts_with-4.ensures in
    record { word = rw (← e.value) at (told_inf c.args.s.now c.args.p (omega arith) c.in-105.is); fits = tt }

pub returns-in_default-5 : goal.returns-in_default-5
returns-in_default-5 c =
    let e = c.if-starts_with-5.ensures in
    record { word = rw (← e.value) at (told_neg_inf c.args.s.now c.args.p (omega arith) c.in-45.is); fits = tt }

pub returns-in_default-6 : goal.returns-in_default-6
returns-in_default-6 c = record { word = told_none c.args.s.now c.args.p (omega arith) (λ e. omega arith) (λ e. omega arith) (λ e. omega arith) (λ e. omega arith) (λ e. omega arith); fits = tt }
