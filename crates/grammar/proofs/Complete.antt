-- What the grammar has, strict or loose, the scan finds.
use mathlib.Core.Path.{◌≡◌, refl, ap, ◌∙◌}
use Prim.Native.Nat.{ℕ, suc, ◌<◌}
use mathlib.Core.Bool.{Bool, true, false}
use mathlib.Core.List.{List, [], ◌∷◌}
use native.Mathlib.Omega.{arith}
use lib.ListN.{length}
use Rattle.refusal.specs.Paper.{Paper, gives, spot}
use Rattle.refusal.specs.declared.Format.{Format}
use Rattle.token.specs.declared.Kind.{Kind}
use Rattle.token.specs.declared.Kind.TheVariants.{OpenList, CloseList, OpenMap, CloseMap, OpenAttributes, CloseAttributes}
use Rattle.lexer.specs.Lexer.{kind_at}
use Rattle.automaton.specs.Limit.{most_open}
use Rattle.automaton.specs.Step.{Block, list, map, attributes, Due, value, object as object-due, item as item-due, key, equals, Step, go, after, opened, on_object, on_value, on_item, on_key, on_equals, end_list, end_map, end_attributes, closed, step}
use Rattle.scan.specs.Walk.{arrive, walk, scan_of}
use Rattle.scan.specs.Post.{block_of}
use Rattle.scan.proofs.Laws.{walk_token}
use Rattle.automaton.proofs.Opened.{not_deep}
use Rattle.scan.proofs.Arms.{arrive_after, after_key}
use Rattle.grammar.specs.Grammar.{Looseness, Shape, tree, object, items, pairs, Reads, plain, attributed, string, scalar, a_list, a_map, items_end, item, items_part, pairs_end, pair, pairs_part}

module _ (l : Looseness) (f : Format) (s : List ℕ) where
  -- the run behind a value that ends at q in K
  abbrev to : ℕ → List Block → Paper ℕ
  to q K = arrive (walk f s) q q (after K)

  -- the run from p, in each stack, is the run from q. An object serves where a value, an object or an item is due
  abbrev Means : Shape → ℕ → ℕ → ℕ → Type 0
  Means tree d p q = (K : List Block) → length K ≡ d → (walk f s p K value ≡ to q K) × (walk f s p K item-due ≡ to q K)
  Means object d p q = (K : List Block) → length K ≡ d → (walk f s p K value ≡ to q K) × (walk f s p K object-due ≡ to q K) × (walk f s p K item-due ≡ to q K)
  Means (items v) d p q = (K : List Block) → suc (length K) ≡ d → walk f s p (list ∷ K) item-due ≡ walk f s q (list ∷ K) item-due
  Means (pairs v) d p q = (b : Bool) (K : List Block) → suc (length K) ≡ d → walk f s p (block_of b ∷ K) key ≡ walk f s q (block_of b ∷ K) key

  -- one token
  tok : (p : ℕ) {a q : ℕ} {k : Kind} (K : List Block) (d : Due) → kind_at f s p ≡ gives (spot k a q) → (u : Step) → step d K k ≡ u → walk f s p K d ≡ arrive (walk f s) a q u
  tok p {a} {q} K d e u h = walk_token f s p K d e ∙ ap (arrive (walk f s) a q) h

  leaf : (p : ℕ) {a q : ℕ} {k : Kind} (K : List Block) (d : Due) → kind_at f s p ≡ gives (spot k a q) → step d K k ≡ after K → walk f s p K d ≡ to q K
  leaf p {a} {q} K d e h = tok p K d e (after K) h ∙ arrive_after (walk f s) a q K

  -- a token that opens a block
  block : (p : ℕ) {a n : ℕ} {k : Kind} (K : List Block) (d : Due) (b : Block) (e : Due) → kind_at f s p ≡ gives (spot k a n) → length K < most_open → step d K k ≡ opened b e K → walk f s p K d ≡ walk f s n (b ∷ K) e
  unfolding arrive
  block p K d b e x h g = tok p K d x (go (b ∷ K) e) (g ∙ not_deep b e K h)

  -- a whole list, map or attribute block, from what is known of its inside
  in_list : (p m : ℕ) {a n b q : ℕ} (K : List Block) (d : Due) → step d K OpenList ≡ opened list item-due K → kind_at f s p ≡ gives (spot OpenList a n) → length K < most_open → walk f s n (list ∷ K) item-due ≡ walk f s m (list ∷ K) item-due → kind_at f s m ≡ gives (spot CloseList b q) → walk f s p K d ≡ to q K
  unfolding step on_item end_list closed
  in_list p m {b = b} {q = q} K d g e h x c = block p K d list item-due e h g ∙ x ∙ tok m (list ∷ K) item-due c (after K) refl ∙ arrive_after (walk f s) b q K

  in_map : (p m : ℕ) {a n b q : ℕ} (K : List Block) (d : Due) → step d K OpenMap ≡ opened map key K → kind_at f s p ≡ gives (spot OpenMap a n) → length K < most_open → walk f s n (map ∷ K) key ≡ walk f s m (map ∷ K) key → kind_at f s m ≡ gives (spot CloseMap b q) → walk f s p K d ≡ to q K
  unfolding step on_key end_map closed
  in_map p m {b = b} {q = q} K d g e h x c = block p K d map key e h g ∙ x ∙ tok m (map ∷ K) key c (after K) refl ∙ arrive_after (walk f s) b q K

  in_attributes : (p m : ℕ) {a n b o : ℕ} (K : List Block) (d : Due) → step d K OpenAttributes ≡ opened attributes key K → kind_at f s p ≡ gives (spot OpenAttributes a n) → length K < most_open → walk f s n (attributes ∷ K) key ≡ walk f s m (attributes ∷ K) key → kind_at f s m ≡ gives (spot CloseAttributes b o) → walk f s p K d ≡ walk f s o K object-due
  unfolding step on_key end_attributes closed arrive
  in_attributes p m K d g e h x c = block p K d attributes key e h g ∙ x ∙ tok m (attributes ∷ K) key c (go K object-due) refl

  pub means : {h : Shape} {d p q : ℕ} → Reads l f s h d p q → Means h d p q
  unfolding step on_object on_value on_item on_key on_equals after arrive
  means (plain x) = λ K c. ((means x K c).0, (means x K c).2)
  means (attributed e h x g y) = λ K c. (in_attributes _ _ K value refl e (omega arith) (means x true K (omega arith)) g ∙ (means y K c).1, in_attributes _ _ K item-due refl e (omega arith) (means x true K (omega arith)) g ∙ (means y K c).1)
  means (string e) = λ K c. (leaf _ K value e refl, leaf _ K object-due e refl, leaf _ K item-due e refl)
  means (scalar e) = λ K c. (leaf _ K value e refl, leaf _ K object-due e refl, leaf _ K item-due e refl)
  means (a_list e h x g) = λ K c. (in_list _ _ K value refl e (omega arith) (means x K (omega arith)) g, in_list _ _ K object-due refl e (omega arith) (means x K (omega arith)) g, in_list _ _ K item-due refl e (omega arith) (means x K (omega arith)) g)
  means (a_map e h x g) = λ K c. (in_map _ _ K value refl e (omega arith) (means x false K (omega arith)) g, in_map _ _ K object-due refl e (omega arith) (means x false K (omega arith)) g, in_map _ _ K item-due refl e (omega arith) (means x false K (omega arith)) g)
  means items_end = λ K c. refl
  means (item w t x) = λ K c. (means t (list ∷ K) c).1 ∙ means x K c
  means (items_part w e x) = λ K c. tok _ (list ∷ K) item-due e (go (list ∷ K) item-due) refl ∙ means x K c
  means pairs_end = λ b K c. refl
  means (pair {k = k} w e g t x) = λ b K c. tok _ (block_of b ∷ K) key e (go (block_of b ∷ K) equals) refl ∙ tok _ (block_of b ∷ K) equals g (go (block_of b ∷ K) value) refl ∙ (means t (block_of b ∷ K) c).0 ∙ ap (arrive (walk f s) k k) (after_key b K) ∙ means x b K c
  means (pairs_part w e x) = λ b K c. tok _ (block_of b ∷ K) key e (go (block_of b ∷ K) key) refl ∙ means x b K c

  -- a value that the grammar has is found
  pub found : (n : ℕ) → Reads l f s tree 0 0 n → scan_of f s ≡ gives n
  unfolding scan_of arrive after
  found n x = (means x [] refl).0
