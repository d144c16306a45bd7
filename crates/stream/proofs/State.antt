-- States that calls leave: each belongs to its buffer, and its blocks are good. Assumes nothing.
use mathlib.Core.Path.{◌≡◌, refl, sym, ◌∙◌}
use mathlib.Core.Bool.{Bool, true, false}
use mathlib.Core.List.{List}
use Prim.Native.Nat.{ℕ, ◌+◌, ◌-◌, ◌≤◌, ◌<◌}
use native.Mathlib.Omega.{arith}
use lib.Dec.{eqb}
use lib.ListN.{length, take}
use lib.Seq.{length-slice, drop-drop}
use borrow.Author.Tests.{eqb-true, eqb-false}
use Rattle.kept.specs.Kept.{no_blocks}
use Rattle.reader.specs.declared.State.{State}
use Rattle.places.specs.Places.{least_buffer, most_buffer, most_offset}
use Rattle.reader.specs.Fits.{held_of, fits, Fitting}
use Rattle.reader.specs.Calls.{skipped_of, state_at, buffered_of, new_state, shut_state}
use Rattle.buffer.specs.Buffer.{separators}
use Rattle.blocks.proofs.Firsts.{pick_case}
use Rattle.buffer.proofs.Buffer.{seps_le}
use Rattle.reader.proofs.Refusing.{by_blocks}
use Rattle.stream.proofs.Open.{Good, good_none, good_fits}
use Rattle.stream.proofs.Records.{none_behind}

-- a state of a stream over a buffer of n bytes; where no byte of a record is passed no block is open
pub record Inv (n : ℕ) (s : State) (l : List ℕ) : Type 0 where
  pub size : length l ≡ n
  pub fit : Fitting s n
  pub good : Good s.blocks (s.place - s.start)
  pub blank : s.place - s.start ≡ 0 → s.blocks ≡ no_blocks

-- from s to u no byte is lost
pub record Moved (n : ℕ) (s : State) (l : List ℕ) (u : State) : Type 0 where
  pub inv : Inv n u l
  pub sum : u.offset + held_of u ≡ s.offset + held_of s
  pub closed : u.closed ≡ s.closed
  pub held : held_of u ≤ held_of s

-- a record is handed out
pub record Gone (n : ℕ) (s : State) (l : List ℕ) (u : State) : Type 0 where
  pub moved : Moved n s l u
  pub less : held_of u < held_of s

-- more is wanted: there is room, and the stream is not closed
pub record Waits (n : ℕ) (s : State) (l : List ℕ) (u : State) : Type 0 where
  pub moved : Moved n s l u
  pub room : held_of u < n
  pub unshut : s.closed ≡ false

module _ (n : ℕ) (s : State) (l : List ℕ) (I : Inv n s l) where
  -- such a state is not refused
  pub inv_fits : fits s (length l) ≡ true
  inv_fits =
      let F = I.fit in
      let z = I.size in
      by_blocks s (length l) (F.len ∙ sym z) (omega arith) (omega arith) F.order F.passed (omega arith) F.sum ∙ good_fits s.blocks (s.place - s.start) I.good

  pub held_is : length (buffered_of s l) ≡ held_of s
  held_is = length-slice s.start s.filled l (omega (arith, I.size, I.fit.within))

  -- closing
  pub shut_inv : Inv n (shut_state s) l
  shut_inv =
      let F = I.fit in
      record {
        size = I.size;
        fit = record { len = F.len; low = F.low; high = F.high; order = F.order; passed = F.passed; within = F.within; sum = F.sum; depth = F.depth };
        good = I.good;
        blank = I.blank;
      }

  -- the separators before a record
  pub skip_moved : Moved n s l (skipped_of s l)
  unfolding skipped_of
  skip_moved =
      let F = I.fit in
      let G = I.good in
      let j = separators (buffered_of s l) in
      let le : j ≤ s.filled - s.start = omega (arith, seps_le (buffered_of s l), held_is) in
      pick_case (Moved n s l) (eqb s.place s.start) (state_at s (s.offset + j) (s.start + j) (s.start + j) s.blocks) s
      (λ e.
      let z : s.place ≡ s.start = eqb-true _ _ e in
      let y : s.start + j - (s.start + j) ≡ s.place - s.start = omega arith in
      record {
        inv = record {
          size = I.size;
          fit = record { len = F.len; low = F.low; high = F.high; order = omega arith; passed = omega arith; within = F.within; sum = omega arith; depth = F.depth };
          good = rw y I.good;
          blank = λ h. I.blank (omega arith);
        };
        sum = omega arith;
        closed = refl;
        held = omega arith;
      })
      (λ e. record { inv = I; sum = refl; closed = refl; held = omega arith })

  -- none stands there any more
  pub skip_ready : (skipped_of s l).place - (skipped_of s l).start ≡ 0 → separators (buffered_of (skipped_of s l) l) ≡ 0
  unfolding skipped_of
  skip_ready = by (eqb s.place s.start) refl
    where
      by : (q : Bool) → eqb s.place s.start ≡ q → (skipped_of s l).place - (skipped_of s l).start ≡ 0 → separators (buffered_of (skipped_of s l) l) ≡ 0
      by false e = let ne : s.place ≡ s.start → ⊥ = eqb-false _ _ e in rw e (λ h. absurd (omega (arith, I.fit.order)))
      by true e = rw e (λ h. rw (← drop-drop (separators (buffered_of s l)) s.start (take s.filled l)) (none_behind (buffered_of s l)))

pub moved_then : (n : ℕ) (s u v : State) (l : List ℕ) → Moved n s l u → Moved n u l v → Moved n s l v
moved_then n s u v l M N = record { inv = N.inv; sum = N.sum ∙ M.sum; closed = N.closed ∙ M.closed; held = omega (arith, M.held, N.held) }

pub new_inv : (o : ℕ) (l : List ℕ) → least_buffer ≤ length l → length l ≤ most_buffer → o ≤ most_offset → Inv (length l) (new_state (length l) o) l
new_inv o l low high sum =
    let G = good_none 0 in
    record {
      size = refl;
      fit = record { len = refl; low = low; high = high; order = omega arith; passed = omega arith; within = omega arith; sum = omega arith; depth = G.top };
      good = G;
      blank = λ _. refl;
    }
