-- The theorems for next as it is: its records are binary. Assumes nothing but, where it is named, that the array of kinds has its 128
-- bytes.
use mathlib.Core.Path.{◌≡◌}
use mathlib.Core.Bool.{true}
use mathlib.Core.Logic.{◌⊎◌}
use mathlib.Core.List.{List, [], ◌++◌}
use Prim.Native.Nat.{ℕ, ◌+◌, ◌≤◌}
use lib.ListN.{length, get_or}
use lib.Seq.{slice}
use Rattle.refusal.specs.Numbers.{malformed_record, record_too_long, strange_state}
use Rattle.refusal.specs.Paper.{gives, more, refused}
use Rattle.blocks.specs.Readings.{binary}
use Rattle.blocks.proofs.Laws.{binary_grows}
use Rattle.reader.specs.declared.State.{State}
use Rattle.reader.specs.declared.Mark.{Mark}
use Rattle.places.specs.Places.{most_offset}
use Rattle.reader.specs.Fits.{fits}
use Rattle.reader.specs.Meaning.{done, handed, ended, looked}
use Rattle.reader.specs.Calls.{open_of, buffered_of, next_of}
use Rattle.history.specs.Facts.{Slotted, unpassed, progress_of, Progress, HandedOut}
use Rattle.history.specs.History.{Call, run, all_of, InOrder, Accounted}
use Rattle.history.proofs.Kept as kept
use Rattle.history.proofs.Again as again
use Rattle.history.proofs.Later as later
use Rattle.history.proofs.Unread as unread
use Rattle.history.proofs.Accounted as account
use Rattle.history.proofs.Stays as stay
use Rattle.stream.proofs.Binary.{binary_reader}

module _ (s : State) (l : List ℕ) where
  -- ---- the state

  pub next_fits : fits s (length l) ≡ true → Slotted s.blocks → (fits (next_of s l).state (length l) ≡ true) × Slotted (next_of s l).state.blocks
  next_fits = kept.next_fits binary binary_grows s l

  pub history_fits : (cs : List Call) → fits s (length l) ≡ true → Slotted s.blocks → (fits (run binary s l cs).state (length (run binary s l cs).buffer) ≡ true) × Slotted (run binary s l cs).state.blocks
  history_fits = stay.history_fits binary binary_grows s l

  pub next_refuses : (n : ℕ) (vs : List ℕ) → (next_of s l).answer ≡ refused n vs → ((malformed_record ≤ n) × (n ≤ record_too_long)) ⊎ (n ≡ strange_state)
  next_refuses = again.next_refuses binary binary_grows s l

  -- ---- the same answer again

  module _ (w : Slotted s.blocks) where
    pub refusal_again : (n : ℕ) (vs : List ℕ) → (n ≡ strange_state → ⊥) → (next_of s l).answer ≡ refused n vs → next_of (next_of s l).state l ≡ looked (refused n vs) (unpassed (next_of s l).state) (next_of s l).state
    refusal_again = again.refusal_again binary binary_grows s l w

    pub more_again : (next_of s l).answer ≡ more → next_of (next_of s l).state l ≡ looked more (unpassed (next_of s l).state) (next_of s l).state
    more_again = again.more_again binary binary_grows s l w

    pub end_again : (next_of s l).answer ≡ gives ended → next_of (next_of s l).state l ≡ looked (gives ended) 0 (next_of s l).state
    end_again = again.end_again binary binary_grows s l w

    pub progress_stays : (n : ℕ) (vs : List ℕ) → (n ≡ strange_state → ⊥) → (next_of s l).answer ≡ refused n vs → ((next_of s l).state ≡ progress_of binary s l) × Progress s (next_of s l).state
    progress_stays = again.progress_stays binary binary_grows s l w

    pub record_leaves : (p n o : ℕ) (m : Mark) → (next_of s l).answer ≡ gives (handed p n o m) → HandedOut p n o (next_of s l).state
    record_leaves = again.record_leaves binary binary_grows s l w

    pub each_later_next : (n : ℕ) (vs : List ℕ) → (n ≡ strange_state → ⊥) → (next_of s l).answer ≡ refused n vs → (cs : List Call) → (next_of (run binary (next_of s l).state l cs).state (run binary (next_of s l).state l cs).buffer).answer ≡ refused n vs
    each_later_next = later.each_later_next binary binary_grows binary_reader.settled s l w

    pub each_later_end : (next_of s l).answer ≡ gives ended → (cs : List Call) → (next_of (run binary (next_of s l).state l cs).state (run binary (next_of s l).state l cs).buffer).answer ≡ gives ended
    each_later_end = later.each_later_end binary binary_grows binary_reader.settled s l w

  pub strange_next : (vs : List ℕ) → (next_of s l).answer ≡ refused strange_state vs → next_of s l ≡ looked (refused strange_state []) 0 s
  strange_next = again.strange_next binary binary_grows s l

  -- ---- bytes that are not looked at

  module _ (m : List ℕ) (e : length l ≡ length m) where
    pub passed_bytes_unread : (s.place ≡ s.start → ⊥) → slice s.place s.filled l ≡ slice s.place s.filled m → get_or l s.start 0 ≡ get_or m s.start 0 → next_of s l ≡ next_of s m
    passed_bytes_unread = unread.passed_bytes_unread binary binary_grows s l m e binary_reader.unread

    pub past_filled_unread : buffered_of s l ≡ buffered_of s m → next_of s l ≡ next_of s m
    past_filled_unread = unread.past_filled_unread binary binary_grows s l m e

  -- ---- the account

  pub accounted : (cs : List Call) → Accounted s l (run binary s l cs)
  accounted = account.accounted binary binary_grows s l

pub fits_from_opening : (o : ℕ) (l : List ℕ) (cs : List Call) → o ≤ most_offset → (open_of o (length l)).answer ≡ gives done →
    (fits (run binary (open_of o (length l)).state l cs).state (length (run binary (open_of o (length l)).state l cs).buffer) ≡ true) × Slotted (run binary (open_of o (length l)).state l cs).state.blocks
fits_from_opening = stay.fits_from_opening binary binary_grows

pub accounted_from_opening : (o n : ℕ) (l : List ℕ) (cs : List Call) → (open_of o n).answer ≡ gives done →
    ((run binary (open_of o n).state l cs).taken ≡ all_of (run binary (open_of o n).state l cs).parts ++ buffered_of (run binary (open_of o n).state l cs).state (run binary (open_of o n).state l cs).buffer)
    × (o + length (all_of (run binary (open_of o n).state l cs).parts) ≡ (run binary (open_of o n).state l cs).state.offset)
    × InOrder o (run binary (open_of o n).state l cs).parts
accounted_from_opening = account.accounted_from_opening binary binary_grows
