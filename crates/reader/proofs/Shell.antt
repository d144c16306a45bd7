-- 28's tests as facts, and what follows from them. Assumes nothing.
use mathlib.Core.Path.{◌≡◌, refl, ap, ◌∙◌}
use mathlib.Core.Bool.{true, false, ◌&&◌}
use mathlib.Core.List.{List, [], ◌++◌}
use Prim.Native.Nat.{ℕ, ◌+◌, ◌-◌, ◌≤◌}
use native.Mathlib.Omega.{arith}
use lib.ListN.{length, take, drop}
use lib.Seq.{slice, length-slice}
use lib.Dec.{eqb}
use borrow.Author.Tests.{leb-true}
use Rattle.refusal.specs.Numbers.{strange_state}
use Rattle.refusal.specs.Paper.{Paper, gives, more, refused}
use Rattle.automaton.specs.Limit.{most_open}
use Rattle.places.specs.Places.{offset_fits}
use Rattle.places.proofs.Tests.{both, placed}
use Rattle.kept.specs.declared.Blocks.{Blocks}
use Rattle.kept.specs.Kept.{kinds_known, depth_within, depth_within_passed, due_fits, blocks_fit}
use Rattle.blocks.specs.Readings.{Reached, Reader, Grows, binary, read_from, pass_of}
use Rattle.blocks.proofs.Laws.{pass_few, binary_grows}
use Rattle.blocks.proofs.Ranged.{ranged}
use Rattle.reader.specs.declared.State.{State}
use Rattle.reader.specs.Fits.{held_of, fits, places_agree, offset_agrees, blocks_agree, Fitting}
use Rattle.reader.specs.Meaning.{told, looked}
use Rattle.reader.specs.Calls.{skipped_of, state_at, buffered_of, read_of, taken_of, filled_by, offer_of, buffer_of, hand_out, look_of, next_by, Within}
use Rattle.buffer.specs.Buffer.{separators}
use Rattle.blocks.proofs.Firsts.{pick_case}
use Rattle.buffer.proofs.Buffer.{part_is, seps_le, taken_is, refilled_is}

fit_depth : (b : Blocks) (passed : ℕ) → blocks_fit b passed ≡ true → b.depth ≤ most_open
unfolding blocks_fit
fit_depth b passed e =
    let x = both (depth_within b && depth_within_passed b passed && kinds_known b.depth b.kinds) (due_fits b) e in
    let y = both (depth_within b && depth_within_passed b passed) (kinds_known b.depth b.kinds) x.0 in
    leb-true _ _ (both (depth_within b) (depth_within_passed b passed) y.0).0

-- what the test says where it holds
pub fitting : (s : State) (n : ℕ) → fits s n ≡ true → Fitting s n
unfolding fits
fitting s n e =
    let d = both (places_agree s n && offset_agrees s) (blocks_agree s) e in
    let f = both (places_agree s n) (offset_agrees s) d.0 in
    let P = placed s.len s.start s.place s.filled n f.0 in
    record {
      len = P.len_is;
      low = P.low;
      high = P.high;
      order = P.order;
      passed = P.passed;
      within = P.within;
      sum = leb-true _ _ f.1;
      depth = fit_depth s.blocks (s.place - s.start) d.1;
    }

pub ordered : {s : State} {n : ℕ} → Fitting s n → s.start ≤ s.filled
ordered F = omega (arith, F.order, F.passed)

-- the separators at the front of the bytes buffered are some of these
pub seps_held : (s : State) (l : List ℕ) → Fitting s (length l) → separators (buffered_of s l) ≤ held_of s
seps_held s l F = rw (length-slice s.start s.filled l F.within) at (seps_le (slice s.start s.filled l))

pub skipped_fits : (s : State) (l : List ℕ) → Fitting s (length l) → Fitting (skipped_of s l) (length l)
unfolding skipped_of
skipped_fits s l F =
    let k = separators (slice s.start s.filled l) in
    let le : k ≤ s.filled - s.start = seps_held s l F in
    pick_case (λ t. Fitting t (length l)) (eqb s.place s.start) (state_at s (s.offset + k) (s.start + k) (s.start + k) s.blocks) s
    (λ _. record { len = F.len; low = F.low; high = F.high; order = omega arith; passed = omega arith; within = F.within; sum = omega arith; depth = F.depth })
    (λ _. F)

-- what is read lies within the bytes buffered
pub within : (t : Reader) → Grows t → (s : State) (l : List ℕ) → Fitting s (length l) → Within s (read_of t s l)
within t G s l F =
    let n = length-slice s.start s.filled l F.within in
    let r = ranged t G (buffered_of s l) (s.place - s.start) s.blocks (omega arith) in
    record { to = omega (arith, r.to); whole = λ q e. (omega (arith, r.whole q e), omega (arith, r.whole q e)) }

-- the tokens of the bytes buffered are read, as they are lent
pub pass_reads : (s : State) (l : List ℕ) → Fitting s (length l) → pass_of (take (s.filled - s.start) (drop s.start l)) (s.place - s.start) s.blocks ≡ read_of binary s l
pass_reads s l F = pass_few _ _ _ F.depth ∙ ap (λ (x : List ℕ). read_from x (s.place - s.start) s.blocks) (part_is s.start s.filled l)

-- and lie within them, whatever blocks are open then
pub binary_within : (s : State) (l : List ℕ) (b : Blocks) → Fitting s (length l) → Within (state_at s s.offset s.start s.place b) (read_of binary s l)
binary_within s l b F = let w = within binary binary_grows s l F in record { to = w.to; whole = w.whole }

-- what is handed out does not turn on the blocks before
pub hand_out_from : (a : Paper ℕ) (s : State) (b : Blocks) (r : Reached) (l : List ℕ) → hand_out a (record { len = s.len; offset = s.offset; start = s.start; place = s.place; filled = s.filled; closed = s.closed; blocks = b }) r l ≡ hand_out a s r l
hand_out_from (gives q) s b r l = refl
hand_out_from more s b r l = refl
hand_out_from (refused n vs) s b r l = refl

-- what the calls of a state rest on
pub ruleset offering = (fitting, taken_is, refilled_is)

pub ruleset skipping = (part_is, seps_held, skipped_fits)

pub ruleset reading = (fitting, pass_reads, binary_within, hand_out_from)

-- a piece that is not refused
module _ (s : State) where
  pub offer_taken : (n m : ℕ) → fits s n ≡ true → s.closed ≡ false → offset_fits (s.offset + held_of s) m ≡ true → offer_of s n m ≡ told (gives (taken_of s n m)) (filled_by s (taken_of s n m))
  unfolding offer_of
  offer_taken n m t f h = simp (t, f, h)

  pub buffer_taken : (piece l : List ℕ) → fits s (length l) ≡ true → s.closed ≡ false → offset_fits (s.offset + held_of s) (length piece) ≡ true
      → buffer_of s piece l ≡ (buffered_of s l ++ take (taken_of s (length l) (length piece)) piece) ++ drop (held_of s + taken_of s (length l) (length piece)) l
  unfolding buffer_of
  buffer_taken piece l t f h = simp (t, f, h)

-- next, by 28's test
module _ (t : Reader) (s : State) (l : List ℕ) where
  pub next_strange : fits s (length l) ≡ false → next_by t s l ≡ looked (refused strange_state []) 0 s
  unfolding next_by
  next_strange e = rw e refl

  pub next_looks : fits s (length l) ≡ true → next_by t s l ≡ look_of t (skipped_of s l) l
  unfolding next_by
  next_looks e = rw e refl
