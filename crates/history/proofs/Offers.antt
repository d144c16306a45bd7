-- A piece is taken or refused: the state, the buffer and the bytes buffered after it. Assumes nothing.
use mathlib.Core.Path.{◌≡◌, refl, sym, ap₂, ◌∙◌}
use mathlib.Core.Bool.{Bool, true, false}
use mathlib.Core.List.{List, [], ◌++◌, append-nil}
use Prim.Native.Nat.{ℕ, ◌+◌, ◌-◌, ◌≤◌}
use native.Mathlib.Omega.{arith}
use lib.ListN.{length, take, drop, length-append, length-drop}
use lib.Seq.{length-slice, length-take-le, take_at}
use borrow.Author.Tests.{leb-true}
use Rattle.refusal.specs.Numbers.{after_closing, offset_too_high, strange_state}
use Rattle.refusal.specs.Paper.{gives, refused}
use Rattle.reader.specs.declared.State.{State}
use Rattle.places.specs.Places.{most_offset, offset_fits}
use Rattle.reader.specs.Fits.{held_of, fits, Fitting}
use Rattle.reader.specs.Meaning.{Told, told}
use Rattle.reader.specs.Calls.{buffered_of, taken_of, filled_by, offer_of, buffer_of}
use Rattle.reader.proofs.Shell.{fitting, offer_taken, buffer_taken}
use Rattle.history.specs.History.{taken_from}

-- so many bytes of the piece are taken, and the buffer then
abbrev pub count_of : State → List ℕ → List ℕ → ℕ
count_of s piece l = taken_of s (length l) (length piece)

abbrev pub filled_with : State → List ℕ → List ℕ → List ℕ
filled_with s piece l = (buffered_of s l ++ take (count_of s piece l) piece) ++ drop (held_of s + count_of s piece l) l

-- the answer and the buffer after a piece is offered
pub data Offering (s : State) (piece l : List ℕ) : Told ℕ → List ℕ → Type 0 where
  accepted : fits s (length l) ≡ true → s.closed ≡ false → s.offset + held_of s + length piece ≤ most_offset → Offering s piece l (told (gives (count_of s piece l)) (filled_by s (count_of s piece l))) (filled_with s piece l)
  turned_away : (n : ℕ) → Offering s piece l (told (refused n []) s) l

module _ (s : State) (piece l : List ℕ) where
  pub offering : Offering s piece l (offer_of s (length l) (length piece)) (buffer_of s piece l)
  unfolding offer_of buffer_of
  offering = by (fits s (length l)) s.closed (offset_fits (s.offset + held_of s) (length piece)) refl refl refl
    where
      by : (a b c : Bool) → fits s (length l) ≡ a → s.closed ≡ b → offset_fits (s.offset + held_of s) (length piece) ≡ c → Offering s piece l (offer_of s (length l) (length piece)) (buffer_of s piece l)
      by false b c e f g = rw e (turned_away strange_state)
      by true true c e f g = rw (e, f) (turned_away after_closing)
      by true false false e f g = rw (e, f, g) (turned_away offset_too_high)
      by true false true e f g = rw (offer_taken s (length l) (length piece) e f g, buffer_taken s piece l e f g) (accepted e f (leb-true _ _ g))

  module _ (F : Fitting s (length l)) where
    held : length (buffered_of s l) ≡ held_of s
    held = length-slice s.start s.filled l F.within

    -- no more is taken than the piece has, or there is room for
    pub few : count_of s piece l ≤ length piece
    few = omega arith

    pub room : held_of s + count_of s piece l ≤ length l
    room = let h : held_of s ≤ length l = omega (arith, F.within) in omega arith

    head : length (buffered_of s l ++ take (count_of s piece l) piece) ≡ held_of s + count_of s piece l
    head = length-append (buffered_of s l) (take (count_of s piece l) piece) ∙ ap₂ ◌+◌ held (length-take-le (count_of s piece l) piece few)

    -- the buffer keeps its length
    pub filled_length : length (filled_with s piece l) ≡ length l
    filled_length =
        length-append (buffered_of s l ++ take (count_of s piece l) piece) (drop (held_of s + count_of s piece l) l)
        ∙ ap₂ ◌+◌ head (length-drop (held_of s + count_of s piece l) l) ∙ sum (held_of s + count_of s piece l) (length l) room
      where
        sum : (a n : ℕ) → a ≤ n → a + (n - a) ≡ n
        sum a n h = omega arith

    -- the bytes buffered, and behind them the bytes taken
    pub filled_buffered : buffered_of (filled_by s (count_of s piece l)) (filled_with s piece l) ≡ buffered_of s l ++ take (count_of s piece l) piece
    filled_buffered = take_at (buffered_of s l ++ take (count_of s piece l) piece) (drop (held_of s + count_of s piece l) l) (held_of s + count_of s piece l) head

  -- what is buffered after a piece is offered: what was, and the part that was taken; a refused piece leaves it
  pub offered_buffered : buffered_of (offer_of s (length l) (length piece)).state (buffer_of s piece l) ≡ buffered_of s l ++ taken_from (offer_of s (length l) (length piece)).answer piece
  offered_buffered = by offering
    where
      by : {x : Told ℕ} {m : List ℕ} → Offering s piece l x m → buffered_of x.state m ≡ buffered_of s l ++ taken_from x.answer piece
      by (accepted a b c) = filled_buffered (fitting s (length l) a)
      by (turned_away n) = sym (append-nil (buffered_of s l))

  -- the buffer keeps its length
  pub offered_length : length (buffer_of s piece l) ≡ length l
  offered_length = by offering
    where
      by : {x : Told ℕ} {m : List ℕ} → Offering s piece l x m → length m ≡ length l
      by (accepted a b c) = filled_length (fitting s (length l) a)
      by (turned_away n) = refl
