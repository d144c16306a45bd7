-- An answer of the reader means one thing: two answers that a promise allows are equal. Assumes nothing.
use mathlib.Core.Path.{◌≡◌, refl, sym, ap, ap₂, ◌∙◌}
use mathlib.Core.List.{List, [], ◌∷◌}
use Prim.Native.Nat.{ℕ}
use Rattle.std.specs.Prelude.{Result, Ok, Err}
use Rattle.refusal.specs.declared.Refusal.{Refusal}
use lib.Dec.{eqb}
use Rattle.refusal.specs.Numbers.{malformed_record, cut_short, record_too_long, after_closing, strange_state}
use Rattle.refusal.specs.Paper.{Paper, gives, more, refused, pick}
use Rattle.refusal.specs.Meaning.{named_by}
use Rattle.refusal.proofs.Laws.{named_by_its_number}
use Rattle.kept.specs.declared.Blocks.{Blocks}
use Rattle.refusal.specs.declared.Unwhole.{Unwhole}
use Rattle.refusal.specs.declared.Unwhole.TheVariants as unwhole
use Rattle.blocks.specs.declared.Run.{Run}
use Rattle.blocks.specs.Readings.{Reached, what_meaning, run_meaning}
use Rattle.reader.specs.declared.State.{State}
use Rattle.reader.specs.declared.BufferLength.{BufferLength}
use Rattle.reader.specs.declared.Opened.{Opened}
use Rattle.reader.specs.declared.NotTaken.{NotTaken}
use Rattle.reader.specs.declared.NotTaken.TheVariants as not_taken
use Rattle.reader.specs.declared.StrangeState.{StrangeState}
use Rattle.reader.specs.declared.Found.{Found}
use Rattle.reader.specs.declared.Found.TheVariants as found
use Rattle.reader.specs.declared.Stopped.{Stopped}
use Rattle.reader.specs.declared.Stopped.TheVariants as stopped
use Rattle.reader.specs.declared.Next.{Next}
use Rattle.reader.specs.Meaning.{Done, Handed, handed, ended, Told, Looked, opening_meaning, taking_meaning, closing_meaning, found_meaning, opened_meaning, offered_meaning, closed_meaning, next_meaning}

-- the values of a refusal, one by one
value_of : List ℕ → ℕ
value_of [] = 0
value_of (v ∷ vs) = v

rest_of : List ℕ → List ℕ
rest_of [] = []
rest_of (v ∷ vs) = vs

-- ---- opening

opening_back : Paper Done → Result (Unit {0}) BufferLength
opening_back (gives x) = Ok tt
opening_back more = Err record {}
opening_back (refused n vs) = Err record {}

opening_undone : (a : Result (Unit {0}) BufferLength) → opening_back (opening_meaning a) ≡ a
unfolding opening_back
opening_undone (Ok u) = refl
opening_undone (Err e) = refl

pub opened_injective : (r q : Opened) → opened_meaning r ≡ opened_meaning q → r ≡ q
opened_injective r q e =
    ap₂ (λ (a : Result (Unit {0}) BufferLength) (s : State). record { answer = a; state = s })
    (sym (opening_undone r.answer) ∙ ap (λ (x : Told Done). opening_back x.answer) e ∙ opening_undone q.answer) (ap (λ (x : Told Done). x.state) e)

-- ---- offering

taking_back : Paper ℕ → Result ℕ NotTaken
taking_back (gives n) = Ok n
taking_back more = Err not_taken.StrangeState
taking_back (refused n vs) = Err (pick (eqb n strange_state) not_taken.StrangeState (pick (eqb n after_closing) not_taken.AfterClosing not_taken.OffsetTooHigh))

taking_undone : (a : Result ℕ NotTaken) → taking_back (taking_meaning a) ≡ a
unfolding taking_back
taking_undone (Ok n) = refl
taking_undone (Err not_taken.StrangeState) = refl
taking_undone (Err not_taken.AfterClosing) = refl
taking_undone (Err not_taken.OffsetTooHigh) = refl

pub offered_injective : (r q : Result ℕ NotTaken) (s t : State) → offered_meaning r s ≡ offered_meaning q t → (r ≡ q) × (s ≡ t)
offered_injective r q s t e = (sym (taking_undone r) ∙ ap (λ (x : Told ℕ). taking_back x.answer) e ∙ taking_undone q, ap (λ (x : Told ℕ). x.state) e)

-- ---- closing

closing_back : Paper Done → Result (Unit {0}) StrangeState
closing_back (gives x) = Ok tt
closing_back more = Err record {}
closing_back (refused n vs) = Err record {}

closing_undone : (a : Result (Unit {0}) StrangeState) → closing_back (closing_meaning a) ≡ a
unfolding closing_back
closing_undone (Ok u) = refl
closing_undone (Err e) = refl

pub closed_injective : (r q : Result (Unit {0}) StrangeState) (s t : State) → closed_meaning r s ≡ closed_meaning q t → (r ≡ q) × (s ≡ t)
closed_injective r q s t e = (sym (closing_undone r) ∙ ap (λ (x : Told Done). closing_back x.answer) e ∙ closing_undone q, ap (λ (x : Told Done). x.state) e)

-- ---- next

found_back : Paper Handed → Result Found Stopped
found_back (gives (handed p n o m)) = Ok (found.Record p n o m)
found_back (gives ended) = Ok found.End
found_back more = Ok found.More
found_back (refused n vs) =
    Err (pick (eqb n malformed_record) (stopped.Malformed (value_of vs) (named_by (value_of (rest_of vs)) (value_of (rest_of (rest_of vs)))))
    (pick (eqb n cut_short) (stopped.CutShort (value_of vs) (value_of (rest_of vs)))
    (pick (eqb n record_too_long) (stopped.TooLong (value_of vs) (value_of (rest_of vs)))
    stopped.StrangeState)))

found_undone : (a : Result Found Stopped) → found_back (found_meaning a) ≡ a
unfolding found_back value_of rest_of
found_undone (Ok (found.Record p n o m)) = refl
found_undone (Ok found.End) = refl
found_undone (Ok found.More) = refl
found_undone (Err (stopped.Malformed o r)) = ap (λ (x : Refusal). Err (stopped.Malformed o x)) (named_by_its_number r)
found_undone (Err (stopped.CutShort o h)) = refl
found_undone (Err (stopped.TooLong o n)) = refl
found_undone (Err stopped.StrangeState) = refl

pub next_injective : (r q : Next) (s t : State) → next_meaning r s ≡ next_meaning q t → (r ≡ q) × (s ≡ t)
next_injective r q s t e =
    let a : r.answer ≡ q.answer = sym (found_undone r.answer) ∙ ap (λ (x : Looked). found_back x.answer) e ∙ found_undone q.answer in
    let n : r.readings ≡ q.readings = ap (λ (x : Looked). x.readings) e in
    (ap₂ (λ (x : Result Found Stopped) (k : ℕ). record { answer = x; readings = k }) a n, ap (λ (x : Looked). x.state) e)

-- ---- the readings

what_back : Paper ℕ → Result ℕ Unwhole
what_back (gives n) = Ok n
what_back more = Err unwhole.Incomplete
what_back (refused n vs) = Err (unwhole.Refused (named_by n (value_of vs)))

what_undone : (a : Result ℕ Unwhole) → what_back (what_meaning a) ≡ a
unfolding what_back value_of
what_undone (Ok n) = refl
what_undone (Err unwhole.Incomplete) = refl
what_undone (Err (unwhole.Refused r)) = ap (λ (x : Refusal). Err (unwhole.Refused x)) (named_by_its_number r)

pub run_injective : (r q : Run) (b c : Blocks) → run_meaning r b ≡ run_meaning q c → (r ≡ q) × (b ≡ c)
run_injective r q b c e =
    let a : r.what ≡ q.what = sym (what_undone r.what) ∙ ap (λ (x : Reached). what_back x.answer) e ∙ what_undone q.what in
    let p : r.place ≡ q.place = ap (λ (x : Reached). x.place) e in
    let n : r.readings ≡ q.readings = ap (λ (x : Reached). x.readings) e in
    let w : r ≡ record { place = q.place; readings = q.readings; what = r.what } = ap₂ (λ (k m : ℕ). record { place = k; readings = m; what = r.what }) p n in
    (w ∙ ap (λ (x : Result ℕ Unwhole). record { place = q.place; readings = q.readings; what = x }) a, ap (λ (x : Reached). x.blocks) e)
