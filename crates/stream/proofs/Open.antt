-- The open blocks of a record that is being read: what a token leaves of them is what the automaton says, and is good again. Assumes nothing.
use mathlib.Core.Path.{◌≡◌, refl, sym, ap, subst, ◌∙◌}
use mathlib.Core.Bool.{true}
use mathlib.Core.List.{List, ◌∷◌}
use Prim.Native.Nat.{ℕ, zero, suc, ◌-◌, ◌≤◌, ◌<◌}
use native.Mathlib.Omega.{arith}
use lib.ListN.{length, get_or, set, length-set, length-replicate}
use lib.Seq.{get_or-set_same, get_or-set_other}
use borrow.Author.Tests.{lt-ltb, le-ltb}
use Rattle.token.specs.declared.Kind.{Kind}
use Rattle.automaton.specs.Limit.{most_open}
use Rattle.automaton.specs.Step.{Block, list, map, attributes, Due, value, object, item, key, equals, go, step}
use Rattle.kept.specs.declared.Blocks.{Blocks}
use Rattle.kept.specs.Kept.{block_of, byte_of, open_in, blocks_of, due_of, kept_due, innermost, kinds_then, blocks_then, no_blocks, kinds_known, takes, blocks_fit}
use Rattle.kept.proofs.Stack.{open_length, open_some, known_byte, known_less, by_due}
use Rattle.stream.proofs.Automaton.{Turn, one_more, one_less, as_many, turn}

-- open blocks of a record of which k bytes are passed
pub record Good (b : Blocks) (k : ℕ) : Type 0 where
  pub deep : b.depth ≤ k
  pub top : b.depth ≤ most_open
  pub known : kinds_known b.depth b.kinds ≡ true
  pub due : takes (blocks_of b) (due_of b.due) ≡ true
  pub len : length b.kinds ≡ most_open

pub good_none : (k : ℕ) → Good no_blocks k
unfolding no_blocks kinds_known takes open_in
good_none k = record { deep = omega arith; top = omega arith; known = refl; due = refl; len = length-replicate {A = ℕ} 128 0 }

pub good_fits : (b : Blocks) (k : ℕ) → Good b k → blocks_fit b k ≡ true
good_fits b k G = by_due b k G.top G.deep G.known ∙ G.due

due_kept : (d : Due) → due_of (kept_due d) ≡ d
due_kept value = refl
due_kept object = refl
due_kept item = refl
due_kept key = refl
due_kept equals = refl

block_byte : (x : Block) → block_of (byte_of x) ≡ x
unfolding block_of byte_of
block_byte list = refl
block_byte map = refl
block_byte attributes = refl

-- a byte of a slot that is not among the first n
module _ (ks : List ℕ) (j v : ℕ) where
  open_set : (n : ℕ) → n ≤ j → open_in n (set ks j v) ≡ open_in n ks
  unfolding open_in
  open_set zero h = refl
  open_set (suc n) h = rw (get_or-set_other ks j n v 0 (λ e. omega arith), open_set n (omega arith))

  known_set : (n : ℕ) → n ≤ j → kinds_known n (set ks j v) ≡ kinds_known n ks
  unfolding kinds_known
  known_set zero h = refl
  known_set (suc n) h = rw (get_or-set_other ks j n v 0 (λ e. omega arith), known_set n (omega arith))

known_here : (n : ℕ) (ks : List ℕ) (x : Block) → get_or ks n 0 ≡ byte_of x → kinds_known n ks ≡ true → kinds_known (suc n) ks ≡ true
unfolding kinds_known
known_here n ks x h e = rw (h, known_byte x) e

-- the bytes behind a token
module _ (b : Blocks) where
  kinds_more : (x : Block) → kinds_then b (x ∷ blocks_of b) ≡ set b.kinds b.depth (byte_of x)
  unfolding kinds_then innermost
  kinds_more x = rw (lt-ltb b.depth (suc (length (blocks_of b))) (omega (arith, open_length b.kinds b.depth))) refl

  kinds_less : (L : List Block) → suc (length L) ≡ b.depth → kinds_then b L ≡ b.kinds
  unfolding kinds_then
  kinds_less L h = rw (le-ltb b.depth (length L) (omega arith)) refl

  kinds_same : kinds_then b (blocks_of b) ≡ b.kinds
  unfolding kinds_then
  kinds_same = rw (open_length b.kinds b.depth, le-ltb b.depth b.depth (omega arith)) refl

-- the open blocks behind a token: those of the automaton, and good again
record Behind (b : Blocks) (L : List Block) (d : Due) : Type 0 where
  opens : open_in (length L) (kinds_then b L) ≡ L
  takes_due : takes L d ≡ true
  top : length L ≤ most_open
  one : length L ≤ suc b.depth
  known : kinds_known (length L) (kinds_then b L) ≡ true
  len : length (kinds_then b L) ≡ most_open

module _ (b : Blocks) (k : ℕ) (G : Good b k) where
  deep_is : length (blocks_of b) ≡ b.depth
  deep_is = open_length b.kinds b.depth

  more_behind : (x : Block) (d : Due) → length (blocks_of b) < most_open → takes (x ∷ blocks_of b) d ≡ true → Behind b (x ∷ blocks_of b) d
  unfolding open_in
  more_behind x d h e =
      let n = deep_is in
      let l : b.depth < length b.kinds = omega (arith, G.len) in
      let v : get_or (set b.kinds b.depth (byte_of x)) b.depth 0 ≡ byte_of x = get_or-set_same b.kinds b.depth (byte_of x) 0 l in
      record {
        opens = rw (kinds_more b x, n) (rw (v, block_byte x, open_set b.kinds b.depth (byte_of x) b.depth (omega arith)) refl);
        takes_due = e;
        top = omega arith;
        one = omega arith;
        known =
            rw (kinds_more b x, n) (known_here b.depth (set b.kinds b.depth (byte_of x)) x v (known_set b.kinds b.depth (byte_of x) b.depth (omega arith) ∙ G.known));
        len = rw (kinds_more b x, length-set b.kinds b.depth (byte_of x)) G.len;
      }

  less_behind : (x : Block) (L : List Block) (d : Due) → blocks_of b ≡ x ∷ L → takes L d ≡ true → Behind b L d
  less_behind x L d q e =
      let n = deep_is in
      let m : suc (length L) ≡ b.depth = sym (ap length q) ∙ n in
      let j : b.depth - 1 ≡ length L = omega arith in
      let w = kinds_less b L m in
      let i : open_in (b.depth - 1) b.kinds ≡ L = cc (open_some b.kinds b.depth (λ z. omega arith)) in
      record {
        opens = rw (w, ← j) i;
        takes_due = e;
        top = omega (arith, G.top);
        one = omega arith;
        known = rw w (known_less b.kinds (length L) (rw m G.known));
        len = rw w G.len;
      }

  same_behind : (d : Due) → takes (blocks_of b) d ≡ true → Behind b (blocks_of b) d
  same_behind d e =
      record {
        opens = rw (kinds_same b, deep_is) refl;
        takes_due = e;
        top = omega (arith, deep_is, G.top);
        one = omega (arith, deep_is);
        known = rw (kinds_same b, deep_is) G.known;
        len = rw (kinds_same b) G.len;
      }

  behind : {L : List Block} {d : Due} → Turn (blocks_of b) (go L d) → Behind b L d
  behind {L} {d} (one_more {x = x} h e) = more_behind x d h e
  behind {L} {d} (one_less {x = x} q e) = less_behind x L d q e
  behind {L} {d} (as_many e) = same_behind d e

  -- a token that is passed
  module _ (x : Kind) (L : List Block) (d : Due) (e : step (due_of b.due) (blocks_of b) x ≡ go L d) where
    passed_behind : Behind b L d
    passed_behind = behind (subst (Turn (blocks_of b)) e (turn (due_of b.due) (blocks_of b) G.due x))

    pub then_opens : blocks_of (blocks_then b L d) ≡ L
    then_opens = passed_behind.opens

    pub then_due : due_of (blocks_then b L d).due ≡ d
    then_due = due_kept d

    pub then_good : (q : ℕ) → k < q → Good (blocks_then b L d) q
    then_good q h =
        let B = passed_behind in
        record {
          deep = omega (arith, B.one, G.deep);
          top = B.top;
          known = B.known;
          due = rw (B.opens, due_kept d) B.takes_due;
          len = B.len;
        }
