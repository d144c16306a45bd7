-- One law for each way through the definition of what is ignored, by place: what holds from a place holds from the next.
use mathlib.Core.Path.{◌≡◌, refl, ap, ◌∙◌}
use mathlib.Core.Bool.{Bool, true, false}
use mathlib.Core.List.{List, [], ◌∷◌}
use Prim.Native.Nat.{ℕ, suc, ◌+◌, ◌-◌, ◌≤◌, ◌<◌}
use native.Mathlib.Omega.{arith}
use borrow.Author.Tests.{ne_eqb, eqb-false}
use lib.Dec.{eqb}
use lib.ListN.{length, get_or, drop, drop_of_length-le}
use Rattle.search.proofs.Laws.{drop_more}
use Rattle.refusal.specs.Paper.{pick}
use Rattle.marks.specs.Classes.{is_byte}
use Rattle.search.specs.First.{first_from}
use Rattle.search.proofs.Laws.{same_at_first}
use Rattle.blanks.specs.Skip.{is_blank, ignored, in_line, in_block, skip_from}

-- the five blanks, in the code's order
pub blank_rest : (b : ℕ) → (b ≡ 32 → ⊥) → (b ≡ 10 → ⊥) → (b ≡ 13 → ⊥) → (b ≡ 9 → ⊥) → eqb b 12 ≡ is_blank b
unfolding is_blank
blank_rest b h i j k = rw (ne_eqb _ _ h, ne_eqb _ _ i, ne_eqb _ _ j, ne_eqb _ _ k) (go (eqb b 12))
  where
    go : (t : Bool) → t ≡ pick t true false
    go true = refl
    go false = refl

pub blank_space : (b : ℕ) → b ≡ 32 → is_blank b ≡ true
unfolding is_blank
blank_space b e = rw e

-- no blank is above 20
pub blank_above : (b : ℕ) → 32 < b → is_blank b ≡ false
unfolding is_blank
blank_above b h = rw (ne_eqb b 9 (λ e. omega arith), ne_eqb b 10 (λ e. omega arith), ne_eqb b 12 (λ e. omega arith), ne_eqb b 13 (λ e. omega arith), ne_eqb b 32 (λ e. omega arith))

pub blank_past : (b : ℕ) → (b ≡ 32 → ⊥) → 32 ≤ b → is_blank b ≡ false
blank_past b n h = blank_above b (omega arith)

-- from a later place it is less far to the end
pub nearer : {n p q : ℕ} → p + 1 ≤ q → p < n → n - q < n - p
nearer h i = omega arith

-- and what lay before the place lies before the later one
pub onward : {o p q : ℕ} → o ≤ p → p + 1 ≤ q → o ≤ q
onward h i = omega arith

-- the first place that is not ignored, from inside a comment of either kind
unfoldable pub line_from : List ℕ → ℕ → ℕ
line_from s p = p + in_line (drop p s)

unfoldable pub block_from : List ℕ → ℕ → ℕ
block_from s p = p + in_block (drop p s)

module _ (s : List ℕ) (p : ℕ) where
  -- the suffix is empty, has one byte or has two
  drop_end : length s ≤ p → drop p s ≡ []
  drop_end h = drop_of_length-le s h

  drop_last : p < length s → length s ≤ p + 1 → drop p s ≡ get_or s p 0 ∷ []
  drop_last h e = drop_more s p h ∙ ap (λ (l : List ℕ). get_or s p 0 ∷ l) (drop_of_length-le s e)

  pub blanks_end : length s ≤ p → skip_from s p ≡ p
  unfolding skip_from ignored
  blanks_end h = rw (drop_end h) (omega arith)

  pub line_out : length s ≤ p → line_from s p ≡ p
  unfolding line_from in_line
  line_out h = rw (drop_end h) (omega arith)

  pub block_out : length s ≤ p → block_from s p ≡ p
  unfolding block_from in_block
  block_out h = rw (drop_end h) (omega arith)

blanks_one : (b : ℕ) (l : List ℕ) → is_blank b ≡ true → ignored (b ∷ l) ≡ suc (ignored l)
unfolding ignored
blanks_one b [] h = rw h
blanks_one b (c ∷ l) h = rw h

blanks_none : (b : ℕ) (l : List ℕ) → is_blank b ≡ false → eqb b 47 ≡ false → ignored (b ∷ l) ≡ 0
unfolding ignored
blanks_none b [] h e = rw h
blanks_none b (c ∷ l) h e = rw (h, e)

block_more_list : (b : ℕ) (l : List ℕ) → (b ≡ 42 → ⊥) → in_block (b ∷ l) ≡ suc (in_block l)
unfolding in_block
block_more_list b [] h = refl
block_more_list b (c ∷ l) h = rw (ne_eqb _ _ h)

module _ (s : List ℕ) (p : ℕ) (h : p < length s) where
  pub blanks_more : is_blank (get_or s p 0) ≡ true → skip_from s p ≡ skip_from s (p + 1)
  unfolding skip_from
  blanks_more e = rw (drop_more s p h, blanks_one (get_or s p 0) (drop (p + 1) s) e) (omega arith)

  pub blanks_stop : is_blank (get_or s p 0) ≡ false → (get_or s p 0 ≡ 47 → ⊥) → skip_from s p ≡ p
  unfolding skip_from
  blanks_stop e n = rw (drop_more s p h, blanks_none (get_or s p 0) (drop (p + 1) s) e (ne_eqb _ _ n)) (omega arith)

  pub blanks_lone : is_blank (get_or s p 0) ≡ false → length s ≤ p + 1 → skip_from s p ≡ p
  unfolding skip_from ignored
  blanks_lone e n = rw (drop_last s p h n, e) (omega arith)

  pub line_end : get_or s p 0 ≡ 10 → line_from s p ≡ skip_from s (p + 1)
  unfolding line_from skip_from in_line
  line_end e = rw (drop_more s p h, e) (omega arith)

  pub line_more : (get_or s p 0 ≡ 10 → ⊥) → line_from s p ≡ line_from s (p + 1)
  unfolding line_from in_line
  line_more e = rw (drop_more s p h, ne_eqb _ _ e) (omega arith)

  pub block_last : length s ≤ p + 1 → block_from s p ≡ block_from s (p + 1)
  unfolding block_from in_block
  block_last n = rw (drop_last s p h n, drop_end s (p + 1) n) (omega arith)

  pub block_more : (get_or s p 0 ≡ 42 → ⊥) → block_from s p ≡ block_from s (p + 1)
  unfolding block_from
  block_more e = rw (drop_more s p h, block_more_list (get_or s p 0) (drop (p + 1) s) e) (omega arith)

module _ (s : List ℕ) (p : ℕ) (h : p + 1 < length s) where
  drop_two : drop p s ≡ get_or s p 0 ∷ get_or s (p + 1) 0 ∷ drop (p + 1 + 1) s
  drop_two = drop_more s p (omega arith) ∙ ap (λ (l : List ℕ). get_or s p 0 ∷ l) (drop_more s (p + 1) h)

  pub open_line : is_blank (get_or s p 0) ≡ false → get_or s p 0 ≡ 47 → get_or s (p + 1) 0 ≡ 47 → skip_from s p ≡ line_from s (p + 2)
  unfolding skip_from line_from ignored
  open_line n e f = rw (two, drop_two, n, e, f) (omega arith)
    where
      two : p + 2 ≡ p + 1 + 1
      two = omega arith

  pub open_block : is_blank (get_or s p 0) ≡ false → get_or s p 0 ≡ 47 → get_or s (p + 1) 0 ≡ 42 → skip_from s p ≡ block_from s (p + 1 + 1)
  unfolding skip_from block_from ignored
  open_block n e f = rw (drop_two, n, e, f) (omega arith)

  pub open_none : is_blank (get_or s p 0) ≡ false → get_or s p 0 ≡ 47 → (get_or s (p + 1) 0 ≡ 47 → ⊥) → (get_or s (p + 1) 0 ≡ 42 → ⊥) → skip_from s p ≡ p
  unfolding skip_from ignored
  open_none n e f g = rw (drop_two, n, e, ne_eqb _ _ f, ne_eqb _ _ g) (omega arith)

  pub block_end : get_or s p 0 ≡ 42 → get_or s (p + 1) 0 ≡ 47 → block_from s p ≡ skip_from s (p + 1 + 1)
  unfolding skip_from block_from in_block
  block_end e f = rw (drop_two, e, f) (omega arith)

  pub block_star : (get_or s (p + 1) 0 ≡ 47 → ⊥) → block_from s p ≡ block_from s (p + 1)
  unfolding block_from in_block
  block_star f = go (eqb (get_or s p 0) 42) refl
    where
      go : (t : Bool) → eqb (get_or s p 0) 42 ≡ t → p + in_block (drop p s) ≡ p + 1 + in_block (drop (p + 1) s)
      go true e = rw (drop_two, drop_more s (p + 1) h, e, ne_eqb _ _ f) (omega arith)
      go false e = rw (drop_two, drop_more s (p + 1) h, e) (omega arith)

-- in a comment nothing changes up to the byte that may end it
module _ (s : List ℕ) where
  pub line_jump : (p : ℕ) → line_from s p ≡ line_from s (first_from (is_byte 10) s p)
  unfolding is_byte
  line_jump = same_at_first (is_byte 10) s (line_from s) (λ p h e. line_more s p h (eqb-false _ _ e))

  pub block_jump : (p : ℕ) → block_from s p ≡ block_from s (first_from (is_byte 42) s p)
  unfolding is_byte
  block_jump = same_at_first (is_byte 42) s (block_from s) (λ p h e. block_more s p h (eqb-false _ _ e))
