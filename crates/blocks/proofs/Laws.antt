-- The readings, one at a time, with no count of steps in sight. Assumes nothing.
use mathlib.Core.Path.{◌≡◌, refl, sym, ap, ◌∙◌}
use mathlib.Core.Bool.{Bool, true, false}
use mathlib.Core.Logic.{⊎_elim}
use Rattle.std.specs.Prelude.{Some, None, Result, Ok, Err}
use mathlib.Core.List.{List, [], ◌∷◌}
use Prim.Native.Nat.{ℕ, zero, suc, ◌+◌, ◌≤◌, ◌<◌}
use native.Mathlib.Omega.{arith}
use lib.Dec.{eqb}
use lib.ListN.{length, get_or}
use borrow.Author.Tests.{lt-ltb, le-ltb, ne_eqb}
use Rattle.refusal.specs.Paper.{Paper, gives, more, refused, Spot, spot, pick}
use Rattle.refusal.specs.declared.Format.TheVariants.{Binary}
use Rattle.refusal.proofs.Cases.{either}
use Rattle.token.specs.declared.Kind.{Kind}
use Rattle.token.specs.Ends.{end_of}
use Rattle.binary.specs.Binary.{binary_from}
use Rattle.refusal.specs.declared.Unread.{Unread}
use Rattle.refusal.specs.declared.Unread.TheVariants.{Beyond}
use Rattle.token.specs.declared.Placed.{Placed}
use Rattle.token.specs.Meaning.{read_meaning, kinds_of}
use Rattle.binary.specs.Binary.{binary_at}
use Rattle.binary.proofs.Laws.{from_is}
use Rattle.lexer.specs.Lexer.{kind_at, token_from}
use Rattle.lexer.proofs.Laws.{refused_is}
use Rattle.automaton.specs.Step.{Step, go, finished, wrong, deep, step}
use Rattle.kept.specs.declared.Blocks.{Blocks}
use Rattle.refusal.specs.Numbers.{too_deep}
use Rattle.refusal.specs.Meaning.{why_number, why_of, refusal_at, refusal_meaning, named_by}
use Rattle.refusal.specs.declared.Refusal.{Refusal}
use Rattle.refusal.proofs.Laws.{named_by_its_number}
use Rattle.refusal.specs.declared.Why.{Why}
use Rattle.refusal.specs.declared.Why.TheVariants.{TooDeep}
use Rattle.automaton.specs.Limit.{most_open}
use Rattle.automaton.proofs.Named.{named_means}
use Rattle.kept.specs.Kept.{due_of, blocks_of, blocks_then, no_blocks}
use Rattle.blocks.specs.Moves.{kind_by, Turn, turned, turn_of, refused_at}
use Rattle.blocks.specs.Readings.{reached, Reader, Grows, Onward, on_step, on_token, read_for, read_on, read_from, pass_of, binary, not_whole}
use Rattle.blocks.proofs.Firsts.{token_is, end_is}

-- over any token reader whose tokens take a byte at least
module _ (t : Reader) (G : Grows t) (s : List ℕ) where
  -- two ways on that agree behind the place give the same
  on_token_lem : (p : ℕ) (k k' : Onward) (b : Blocks) (n : ℕ) → ((q : ℕ) (b : Blocks) (n : ℕ) → p < q → k q b n ≡ k' q b n) → on_token k p b n (t s p) ≡ on_token k' p b n (t s p)
  unfolding on_token on_step
  on_token_lem p k k' b n h = by_read (t s p) refl
    where
      by_step : (first next : ℕ) → p < next → (x : Step) → on_step k first next p b n x ≡ on_step k' first next p b n x
      by_step first next g (go L e) = h next (blocks_then b L e) n g
      by_step first next g finished = refl
      by_step first next g (wrong m) = refl
      by_step first next g deep = refl

      by_read : (r : Paper (Spot Kind)) → t s p ≡ r → on_token k p b n r ≡ on_token k' p b n r
      by_read (gives (spot x first next)) e = by_step first next (G s p x first next e).0 (step (due_of b.due) (blocks_of b) x)
      by_read more e = refl
      by_read (refused m vs) e = refl

  stop : (f p : ℕ) (b : Blocks) (n : ℕ) → length s ≤ p → read_for t s f p b n ≡ reached p n b more
  unfolding read_for
  stop zero p b n h = refl
  stop (suc f) p b n h = rw (le-ltb p (length s) h)

  turn : (f p : ℕ) (b : Blocks) (n : ℕ) → p < length s → read_for t s (suc f) p b n ≡ on_token (read_for t s f) p b (n + 1) (t s p)
  unfolding read_for
  turn f p b n h = rw (lt-ltb p (length s) h)

  -- any count that lasts past the end gives the same
  enough : (m n p : ℕ) (b : Blocks) (r : ℕ) → length s < m + p → length s < n + p → read_for t s m p b r ≡ read_for t s n p b r
  enough zero n p b r g h = stop 0 p b r (omega arith) ∙ sym (stop n p b r (omega arith))
  enough (suc m) zero p b r g h = stop (suc m) p b r (omega arith) ∙ sym (stop 0 p b r (omega arith))
  enough (suc m) (suc n) p b r g h =
      ⊎_elim
      (λ k. stop (suc m) p b r k ∙ sym (stop (suc n) p b r k))
      (λ k. turn m p b r k ∙ on_token_lem p (read_for t s m) (read_for t s n) b (r + 1) (λ q c j l. enough m n q c j (omega arith) (omega arith)) ∙ sym (turn n p b r k))
      (either (length s) p)

  module _ (p : ℕ) (b : Blocks) (n : ℕ) where
    -- no reading is made at the end of the bytes
    pub read_end : length s ≤ p → read_on t s p b n ≡ reached p n b more
    unfolding read_on
    read_end h = stop (suc (length s)) p b n h

    -- one reading, and the readings go on behind it
    pub read_turn : p < length s → read_on t s p b n ≡ on_token (read_on t s) p b (n + 1) (t s p)
    unfolding read_on
    read_turn h = turn (length s) p b n h ∙ on_token_lem p (read_for t s (length s)) (read_for t s (suc (length s))) b (n + 1) (λ q c j l. enough (length s) (suc (length s)) q c j (omega arith) (omega arith))

-- ---- in binary

pub binary_grows : Grows binary
binary_grows s p k a n e = let g = token_is s p k a n e in (g.2, g.3)

module _ (s : List ℕ) (p : ℕ) where
  -- a token that is whole
  whole_token : (q : ℕ) (r : Paper (Spot Kind)) → kind_at Binary s p ≡ r → end_of r ≡ Some q → (r ≡ gives (spot (kind_by (get_or s p 0)) p q)) × ((p < q) × (q ≤ length s))
  whole_token q (gives (spot t first next)) e f =
      let g = token_is s p t first next e in
      let x = g.0 in
      let y = g.1 in
      let z : next ≡ q = cc in
      (cc, (omega (arith, g.2), omega (arith, g.3)))
  whole_token q more e f = cc
  whole_token q (refused m vs) e f = cc

  module _ (q : ℕ) (e : Some q ≡ end_of (binary_from s p)) where
    -- where it ends
    pub token_ends : (p < q) × (q ≤ length s)
    token_ends = (whole_token q (kind_at Binary s p) refl (sym (e ∙ end_is s p))).1

    -- its step
    pub token_whole : (k : Onward) (b : Blocks) (n : ℕ) → on_token k p b n (kind_at Binary s p) ≡ on_step k p q p b n (step (due_of b.due) (blocks_of b) (kind_by (get_or s p 0)))
    unfolding on_token
    token_whole k b n = ap (on_token k p b n) (whole_token q (kind_at Binary s p) refl (sym (e ∙ end_is s p))).0

  -- the answer where none is whole
  pub token_none : None ≡ end_of (binary_from s p) → (k : Onward) (b : Blocks) (n : ℕ) (a : Paper ℕ) → not_whole (kind_at Binary s p) a → on_token k p b n (kind_at Binary s p) ≡ reached p n b a
  unfolding on_token
  token_none e k b n a w = by (kind_at Binary s p) (sym (e ∙ end_is s p)) w
    where
      by : (r : Paper (Spot Kind)) → end_of r ≡ None → not_whole r a → on_token k p b n r ≡ reached p n b a
      by (gives (spot t first next)) f w = cc
      by more f w = ap (reached p n b) (sym w)
      by (refused m vs) f w = ap (reached p n b) (sym w)

-- what the full reader says of the token is what the automaton reads there, and the place is none beyond the bytes
module _ (s : List ℕ) (p : ℕ) (t : Result Placed Unread) (l : p < length s) (told : read_meaning t ≡ binary_at s p) where
  pub told_kind : kind_at Binary s p ≡ kinds_of (read_meaning t)
  unfolding kind_at token_from
  told_kind = sym (ap kinds_of (told ∙ from_is s p (omega arith)))

  pub told_within : t ≡ Err Beyond → ⊥
  told_within e = let g = refused_is Binary s p (told_kind ∙ ap (λ (t : Result Placed Unread). kinds_of (read_meaning t)) e) in omega (arith, g.1)

-- ---- what the readings make of a token's turn

-- what is wrong by such a number has it
numbered : (m : ℕ) → 0 < m → m ≤ too_deep → why_number (why_of m) ≡ m
numbered m h g = let e : refusal_meaning {A = ℕ} (named_by m 0) ≡ refused m (0 ∷ []) = named_means m 0 h g in cc

module _ (k : Onward) (p q n : ℕ) (b c : Blocks) (t : Step) where
  pub turn_passes : (w : Bool) → turned (Ok w) c ≡ turn_of b t → pick w (reached q n c (gives q)) (k q c n) ≡ on_step k p q p b n t
  unfolding turn_of on_step
  turn_passes w e = by t e
    where
      by : (t : Step) → turned (Ok w) c ≡ turn_of b t → pick w (reached q n c (gives q)) (k q c n) ≡ on_step k p q p b n t
      by (go K d) e = let a = ap (λ (x : Turn). x.answer) e in let f : w ≡ false = cc in let g : c ≡ blocks_then b K d = ap (λ (x : Turn). x.blocks) e in rw (f, g) refl
      by finished e = let a = ap (λ (x : Turn). x.answer) e in let f : w ≡ true = cc in let g : c ≡ no_blocks = ap (λ (x : Turn). x.blocks) e in rw (f, g) refl
      by (wrong m) e = let a = ap (λ (x : Turn). x.answer) e in cc
      by deep e = let a = ap (λ (x : Turn). x.answer) e in cc

  -- only the step of a block too many comes to 13
  pub turn_refuses : ((m : ℕ) → t ≡ wrong m → (0 < m) × (m < too_deep)) → (y : Why) → turned (Err y) c ≡ turn_of b t → reached p n c (refusal_meaning (refused_at y p q)) ≡ on_step k p q p b n t
  unfolding turn_of on_step
  turn_refuses shallow y e = by t refl e
    where
      by : (u : Step) → t ≡ u → turned (Err y) c ≡ turn_of b u → reached p n c (refusal_meaning (refused_at y p q)) ≡ on_step k p q p b n u
      by (go K d) f e = let a = ap (λ (x : Turn). x.answer) e in cc
      by finished f e = let a = ap (λ (x : Turn). x.answer) e in cc
      by (wrong m) f e =
          let s = shallow m f in
          let a = ap (λ (x : Turn). x.answer) e in
          let x : y ≡ why_of m = cc in
          let z : why_number y ≡ m = ap why_number x ∙ numbered m s.0 (omega arith) in
          let w : c ≡ b = ap (λ (x : Turn). x.blocks) e in
          rw (z, w, ne_eqb m too_deep (λ i. omega arith)) refl
      by deep f e = let a = ap (λ (x : Turn). x.answer) e in let x : y ≡ TooDeep = cc in let w : c ≡ b = ap (λ (x : Turn). x.blocks) e in rw (x, w) refl

-- no other refusal has the number of a block too many
named_why : (y : Why) → why_of (why_number y) ≡ y
named_why y = ap (λ (r : Refusal). r.why) (named_by_its_number (refusal_at y 0))

pub other_number : (y : Why) → (y ≡ TooDeep → ⊥) → eqb (why_number y) too_deep ≡ false
unfolding why_of
other_number y h = ne_eqb (why_number y) too_deep (λ e. h (sym (named_why y) ∙ ap why_of e))

-- ---- a caller's blocks

pub pass_few : (s : List ℕ) (p : ℕ) (b : Blocks) → b.depth ≤ most_open → pass_of s p b ≡ read_from s p b
unfolding pass_of
pass_few s p b h = rw (le-ltb most_open b.depth h)

pub pass_many : (s : List ℕ) (p : ℕ) (b : Blocks) → most_open < b.depth → pass_of s p b ≡ reached p 0 b more
unfolding pass_of
pass_many s p b h = rw (lt-ltb most_open b.depth h)
