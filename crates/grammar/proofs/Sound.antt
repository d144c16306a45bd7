-- What the scan finds, the grammar has.
use mathlib.Core.Path.{◌≡◌, refl, sym, subst, ◌∙◌}
use Prim.Native.Nat.{ℕ, zero, suc, ◌+◌, ◌<◌}
use mathlib.Core.Bool.{Bool, true, false}
use mathlib.Core.List.{List, [], ◌∷◌}
use native.Mathlib.Omega.{arith}
use lib.Dec.{T, ltb}
use lib.ListN.{length}
use borrow.Author.Tests.{ltb-true}
use Rattle.refusal.specs.Paper.{Paper, gives, more, refused, Spot, spot, pick}
use Rattle.refusal.specs.declared.Format.{Format}
use Rattle.token.specs.declared.Kind.{Kind}
use Rattle.token.specs.declared.Kind.TheVariants.{Text, Scalar, OpenList, CloseList, OpenMap, CloseMap, OpenAttributes, CloseAttributes, Equals, Semicolon}
use Rattle.lexer.specs.Lexer.{kind_at}
use Rattle.lexer.proofs.Laws.{ends}
use Rattle.automaton.specs.Limit.{most_open}
use Rattle.automaton.specs.Step.{Block, list, map, attributes, Due, value, object as object-due, item as item-due, key, equals, go, deep, after, closed, opened, on_object, on_value, on_item, on_key, on_equals, end_list, end_map, end_attributes, step}
use Rattle.scan.specs.Walk.{arrive, on_read, walk, scan_of}
use Rattle.scan.proofs.Tokens.{token_grows}
use Rattle.scan.proofs.Laws.{walk_unfolds, walk_more}
use Rattle.grammar.specs.Grammar.{loose, Slot, opening, filled, parted, may_part, may_fill, Shape, tree, object, items, pairs, Reads, plain, attributed, string, scalar, a_list, a_map, items_end, item, items_part, pairs_end, pair, pairs_part}

no_refusal : {m n : ℕ} {vs : List ℕ} → refused m vs ≡ gives n → ⊥
no_refusal e = let z : ◌≡◌ {A = ℕ} 0 1 = cc in omega arith

no_more : {n : ℕ} → more ≡ gives n → ⊥
no_more e = let z : ◌≡◌ {A = ℕ} 0 1 = cc in omega arith

same_end : {m n : ℕ} → gives m ≡ gives n → m ≡ n
same_end e = cc

-- the loose grammar has each looseness
any_part : (v : Slot) → T (may_part loose v)
any_part opening = tt
any_part filled = tt
any_part parted = tt

any_fill : (v : Slot) → T (may_fill loose v)
any_fill opening = tt
any_fill filled = tt
any_fill parted = tt

-- the states that the run comes to: items are due in lists, keys in the other two blocks
abbrev Fit : Due → List Block → Type 0
Fit value K = Unit {0}
Fit object-due K = Unit {0}
Fit equals K = Unit {0}
Fit item-due [] = ⊥
Fit item-due (list ∷ K) = Unit {0}
Fit item-due (map ∷ K) = ⊥
Fit item-due (attributes ∷ K) = ⊥
Fit key [] = ⊥
Fit key (list ∷ K) = ⊥
Fit key (map ∷ K) = Unit {0}
Fit key (attributes ∷ K) = Unit {0}

module _ (f : Format) (s : List ℕ) where
  abbrev R : Shape → List Block → ℕ → ℕ → Type 0
  R h K p q = Reads loose f s h (length K) p q

  -- behind a value that ends at q in K, the blocks end one by one, the last at n
  abbrev After : List Block → ℕ → ℕ → Type 0
  After [] q n = q ≡ n
  After (list ∷ K) q n = (m b o : ℕ) × ((v : Slot) → R (items v) (list ∷ K) q m) × (kind_at f s m ≡ gives (spot CloseList b o)) × After K o n
  After (map ∷ K) q n = (m b o : ℕ) × ((v : Slot) → R (pairs v) (map ∷ K) q m) × (kind_at f s m ≡ gives (spot CloseMap b o)) × After K o n
  After (attributes ∷ K) q n = (m b o : ℕ) × ((v : Slot) → R (pairs v) (attributes ∷ K) q m) × (kind_at f s m ≡ gives (spot CloseAttributes b o)) × ((z : ℕ) × R object K o z × After K z n)

  -- a part of the shape h, and then the blocks' ends
  abbrev Then : Shape → List Block → ℕ → ℕ → Type 0
  Then h K p n = (q : ℕ) × R h K p q × After K q n

  abbrev State : Due → List Block → ℕ → ℕ → Type 0
  State value K p n = Then tree K p n
  State object-due K p n = Then object K p n
  State item-due K p n = After K p n
  State key K p n = After K p n
  State equals K p n = (b m : ℕ) × (kind_at f s p ≡ gives (spot Equals b m)) × Then tree K m n

  -- what is known of the runs from behind p
  abbrev Known : ℕ → ℕ → Type 0
  Known p n = (q : ℕ) (K : List Block) (d : Due) → p < q → Fit d K → walk f s q K d ≡ gives n → State d K q n

  module _ (p n : ℕ) (known : Known p n) (a q : ℕ) (past : p < q) where
    on_after : (K : List Block) → arrive (walk f s) a q (after K) ≡ gives n → After K q n
    unfolding arrive after
    on_after [] e = same_end e
    on_after (list ∷ K) e = known q (list ∷ K) item-due past tt e
    on_after (map ∷ K) e = known q (map ∷ K) key past tt e
    on_after (attributes ∷ K) e = known q (attributes ∷ K) key past tt e

    -- a block was opened, and there was room
    on_opened : (b : Block) (d : Due) (K : List Block) → Fit d (b ∷ K) → arrive (walk f s) a q (opened b d K) ≡ gives n → (length K < most_open) × State d (b ∷ K) q n
    unfolding opened arrive
    on_opened b d K w e = by (ltb (length K) most_open) refl e
      where
        by : (t : Bool) → ltb (length K) most_open ≡ t → arrive (walk f s) a q (pick t (go (b ∷ K) d) deep) ≡ gives n → (length K < most_open) × State d (b ∷ K) q n
        by true h x = (ltb-true _ _ h, known q (b ∷ K) d past w x)
        by false h x = absurd (no_refusal x)

    of_object : (K : List Block) (k : Kind) → kind_at f s p ≡ gives (spot k a q) → arrive (walk f s) a q (on_object K k) ≡ gives n → State object-due K p n
    unfolding on_object arrive
    of_object K Text e x = (q, string e, on_after K x)
    of_object K Scalar e x = (q, scalar e, on_after K x)
    of_object K OpenList e x = let y = on_opened list item-due K tt x in (y.1.2, a_list e y.0 (y.1.3 opening) y.1.4, y.1.5)
    of_object K CloseList e x = absurd (no_refusal x)
    of_object K OpenMap e x = let y = on_opened map key K tt x in (y.1.2, a_map e y.0 (y.1.3 opening) y.1.4, y.1.5)
    of_object K CloseMap e x = absurd (no_refusal x)
    of_object K OpenAttributes e x = absurd (no_refusal x)
    of_object K CloseAttributes e x = absurd (no_refusal x)
    of_object K Equals e x = absurd (no_refusal x)
    of_object K Semicolon e x = absurd (no_refusal x)

    of_value : (K : List Block) (k : Kind) → kind_at f s p ≡ gives (spot k a q) → arrive (walk f s) a q (on_value K k) ≡ gives n → State value K p n
    unfolding on_value
    of_value K Text e x = let y = of_object K Text e x in (y.0, plain y.1, y.2)
    of_value K Scalar e x = let y = of_object K Scalar e x in (y.0, plain y.1, y.2)
    of_value K OpenList e x = let y = of_object K OpenList e x in (y.0, plain y.1, y.2)
    of_value K CloseList e x = let y = of_object K CloseList e x in (y.0, plain y.1, y.2)
    of_value K OpenMap e x = let y = of_object K OpenMap e x in (y.0, plain y.1, y.2)
    of_value K CloseMap e x = let y = of_object K CloseMap e x in (y.0, plain y.1, y.2)
    of_value K OpenAttributes e x = let y = on_opened attributes key K tt x in (y.1.5.0, attributed e y.0 (y.1.3 opening) y.1.4 y.1.5.1, y.1.5.2)
    of_value K CloseAttributes e x = let y = of_object K CloseAttributes e x in (y.0, plain y.1, y.2)
    of_value K Equals e x = let y = of_object K Equals e x in (y.0, plain y.1, y.2)
    of_value K Semicolon e x = let y = of_object K Semicolon e x in (y.0, plain y.1, y.2)

    of_item : (K : List Block) (k : Kind) → kind_at f s p ≡ gives (spot k a q) → arrive (walk f s) a q (on_item (list ∷ K) k) ≡ gives n → After (list ∷ K) p n
    unfolding on_item end_list closed arrive
    of_item K Text e x = let y = of_value (list ∷ K) Text e x in (y.2.0, y.2.1, y.2.2, λ v. item (any_fill v) y.1 (y.2.3 filled), y.2.4, y.2.5)
    of_item K Scalar e x = let y = of_value (list ∷ K) Scalar e x in (y.2.0, y.2.1, y.2.2, λ v. item (any_fill v) y.1 (y.2.3 filled), y.2.4, y.2.5)
    of_item K OpenList e x = let y = of_value (list ∷ K) OpenList e x in (y.2.0, y.2.1, y.2.2, λ v. item (any_fill v) y.1 (y.2.3 filled), y.2.4, y.2.5)
    of_item K CloseList e x = (p, a, q, λ v. items_end, e, on_after K x)
    of_item K OpenMap e x = let y = of_value (list ∷ K) OpenMap e x in (y.2.0, y.2.1, y.2.2, λ v. item (any_fill v) y.1 (y.2.3 filled), y.2.4, y.2.5)
    of_item K CloseMap e x = let y = of_value (list ∷ K) CloseMap e x in (y.2.0, y.2.1, y.2.2, λ v. item (any_fill v) y.1 (y.2.3 filled), y.2.4, y.2.5)
    of_item K OpenAttributes e x = let y = of_value (list ∷ K) OpenAttributes e x in (y.2.0, y.2.1, y.2.2, λ v. item (any_fill v) y.1 (y.2.3 filled), y.2.4, y.2.5)
    of_item K CloseAttributes e x = let y = of_value (list ∷ K) CloseAttributes e x in (y.2.0, y.2.1, y.2.2, λ v. item (any_fill v) y.1 (y.2.3 filled), y.2.4, y.2.5)
    of_item K Equals e x = let y = of_value (list ∷ K) Equals e x in (y.2.0, y.2.1, y.2.2, λ v. item (any_fill v) y.1 (y.2.3 filled), y.2.4, y.2.5)
    of_item K Semicolon e x = let y = known q (list ∷ K) item-due past tt x in (y.0, y.1, y.2, λ v. items_part (any_part v) e (y.3 parted), y.4, y.5)

    of_map : (K : List Block) (k : Kind) → kind_at f s p ≡ gives (spot k a q) → arrive (walk f s) a q (on_key (map ∷ K) k) ≡ gives n → After (map ∷ K) p n
    unfolding on_key end_map end_attributes closed arrive
    of_map K Text e x = let y = known q (map ∷ K) equals past tt x in (y.3.2.0, y.3.2.1, y.3.2.2, λ v. pair (any_fill v) e y.2 y.3.1 (y.3.2.3 filled), y.3.2.4, y.3.2.5)
    of_map K Scalar e x = absurd (no_refusal x)
    of_map K OpenList e x = absurd (no_refusal x)
    of_map K CloseList e x = absurd (no_refusal x)
    of_map K OpenMap e x = absurd (no_refusal x)
    of_map K CloseMap e x = (p, a, q, λ v. pairs_end, e, on_after K x)
    of_map K OpenAttributes e x = absurd (no_refusal x)
    of_map K CloseAttributes e x = absurd (no_refusal x)
    of_map K Equals e x = absurd (no_refusal x)
    of_map K Semicolon e x = let y = known q (map ∷ K) key past tt x in (y.0, y.1, y.2, λ v. pairs_part (any_part v) e (y.3 parted), y.4, y.5)

    of_attributes : (K : List Block) (k : Kind) → kind_at f s p ≡ gives (spot k a q) → arrive (walk f s) a q (on_key (attributes ∷ K) k) ≡ gives n → After (attributes ∷ K) p n
    unfolding on_key end_map end_attributes closed arrive
    of_attributes K Text e x = let y = known q (attributes ∷ K) equals past tt x in (y.3.2.0, y.3.2.1, y.3.2.2, λ v. pair (any_fill v) e y.2 y.3.1 (y.3.2.3 filled), y.3.2.4, y.3.2.5)
    of_attributes K Scalar e x = absurd (no_refusal x)
    of_attributes K OpenList e x = absurd (no_refusal x)
    of_attributes K CloseList e x = absurd (no_refusal x)
    of_attributes K OpenMap e x = absurd (no_refusal x)
    of_attributes K CloseMap e x = absurd (no_refusal x)
    of_attributes K OpenAttributes e x = absurd (no_refusal x)
    of_attributes K CloseAttributes e x = (p, a, q, λ v. pairs_end, e, known q K object-due past tt x)
    of_attributes K Equals e x = absurd (no_refusal x)
    of_attributes K Semicolon e x = let y = known q (attributes ∷ K) key past tt x in (y.0, y.1, y.2, λ v. pairs_part (any_part v) e (y.3 parted), y.4, y.5)

    of_equals : (K : List Block) (k : Kind) → kind_at f s p ≡ gives (spot k a q) → arrive (walk f s) a q (on_equals K k) ≡ gives n → State equals K p n
    unfolding on_equals arrive
    of_equals K Text e x = absurd (no_refusal x)
    of_equals K Scalar e x = absurd (no_refusal x)
    of_equals K OpenList e x = absurd (no_refusal x)
    of_equals K CloseList e x = absurd (no_refusal x)
    of_equals K OpenMap e x = absurd (no_refusal x)
    of_equals K CloseMap e x = absurd (no_refusal x)
    of_equals K OpenAttributes e x = absurd (no_refusal x)
    of_equals K CloseAttributes e x = absurd (no_refusal x)
    of_equals K Equals e x = (a, q, e, known q K value past tt x)
    of_equals K Semicolon e x = absurd (no_refusal x)

    of_step : (d : Due) (K : List Block) (k : Kind) → Fit d K → kind_at f s p ≡ gives (spot k a q) → arrive (walk f s) a q (step d K k) ≡ gives n → State d K p n
    unfolding step
    of_step value K k w e x = of_value K k e x
    of_step object-due K k w e x = of_object K k e x
    of_step equals K k w e x = of_equals K k e x
    of_step item-due [] k w e x = absurd w
    of_step item-due (list ∷ K) k w e x = of_item K k e x
    of_step item-due (map ∷ K) k w e x = absurd w
    of_step item-due (attributes ∷ K) k w e x = absurd w
    of_step key [] k w e x = absurd w
    of_step key (list ∷ K) k w e x = absurd w
    of_step key (map ∷ K) k w e x = of_map K k e x
    of_step key (attributes ∷ K) k w e x = of_attributes K k e x

  of_read : (p n : ℕ) (d : Due) (K : List Block) (t : Paper (Spot Kind)) → Known p n → Fit d K → kind_at f s p ≡ t → on_read (walk f s) K d t ≡ gives n → State d K p n
  unfolding on_read
  of_read p n d K (gives (spot k a q)) known w e x = of_step p n known a q (token_grows f s p e).0 d K k w e x
  of_read p n d K more known w e x = absurd (no_more x)
  of_read p n d K (refused m vs) known w e x = absurd (no_refusal x)

  -- m is more than the bytes left
  of_run : (m n p : ℕ) (K : List Block) (d : Due) → length s < m + p → Fit d K → walk f s p K d ≡ gives n → State d K p n
  of_run zero n p K d h w x = absurd (no_more (sym (walk_more f s p K d (ends f s p (omega arith))) ∙ x))
  of_run (suc m) n p K d h w x = of_read p n d K (kind_at f s p) (λ q L e i v y. of_run m n q L e (omega arith) v y) w refl (sym (walk_unfolds f s p K d) ∙ x)

  -- a length that is answered is a value's
  pub real : (n : ℕ) → scan_of f s ≡ gives n → Reads loose f s tree 0 0 n
  unfolding scan_of
  real n x = let y = of_run (suc (length s)) n 0 [] value (omega arith) tt x in subst (λ (m : ℕ). Reads loose f s tree 0 0 m) y.2 y.1
