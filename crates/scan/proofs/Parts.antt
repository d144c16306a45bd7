-- What each way through the functions of the cycle comes to, over plain values.
use mathlib.Core.Path.{◌≡◌, refl, sym, ap, subst, ◌∙◌}
use Prim.Native.Nat.{ℕ, suc, ◌+◌, ◌≤◌, ◌<◌}
use mathlib.Core.Bool.{Bool, true, false}
use mathlib.Core.List.{List, [], ◌∷◌}
use native.Mathlib.Omega.{arith}
use lib.ListN.{length, get_or}
use Rattle.refusal.specs.Numbers.{not_value, not_key, not_equals, too_deep}
use Rattle.refusal.specs.Paper.{Paper, gives, more, refused, Spot, spot}
use Rattle.std.specs.Prelude.{Option, Some, None}
use Rattle.refusal.specs.Meaning.{unwhole_meaning}
use Rattle.refusal.specs.declared.Format.{Format}
use Rattle.refusal.specs.declared.Unwhole.{Unwhole}
use Rattle.refusal.specs.declared.Unwhole.TheVariants as w
use Rattle.token.specs.declared.Kind.{Kind}
use Rattle.token.specs.declared.Kind.TheVariants.{Text, Scalar, Semicolon}
use Rattle.token.specs.Ends.{string_end, scalar_end}
use Rattle.lexer.specs.Lexer.{kind_at, skip_of, Mark, list_opens, list_closes, map_opens, map_closes, attributes_open, attributes_close, equals_stands, separator_stands}
use Rattle.lexer.proofs.Laws.{ends, mark_here, refused_is}
use Rattle.automaton.specs.Limit.{most_open}
use Rattle.automaton.specs.Step.{Block, list, attributes, Due, value, object, item, key, equals, Step, go, wrong, deep, after, closed, opened, step}
use Rattle.scan.specs.Walk.{arrive, on_read, walk}
use Rattle.scan.specs.Post.{answer_of, why_of, resume, Past, Part, Tree, Begun, Attributed, Pair, Pairs, due_of}
use Rattle.scan.proofs.Tokens.{token_grows, skip_on, skip_here, not_mark, no_text, no_scalar, Ending, text_ends, scalar_ends, none_ends, ending}
use Rattle.scan.proofs.Laws.{walk_unfolds, walk_token, walk_more, walk_skip}
use Rattle.automaton.proofs.Opened.{too_deep_lem, not_deep}
use Rattle.scan.proofs.Arms.{begins, no_value, no_key, no_equals, opens_attributes_lem, text_whole, scalar_whole, key_is, equals_is, arrive_after, arrive_closed}

-- 1. Any part

past_from : (s : List ℕ) (p p' : ℕ) (r : Paper ℕ) → p ≤ p' → Past s p' r → Past s p r
unfolding Past
past_from s p p' (gives q) h x = (omega arith, x.1)
past_from s p p' more h x = tt
past_from s p p' (refused n vs) h x = x

module _ {f : Format} {s : List ℕ} {Q : List Block → Type 0} where
  -- the run comes to where a part starts
  pub via : {p p' : ℕ} {start start' : List Block → Paper ℕ} {rest : List Block → Step} {r : Paper ℕ} → p ≤ p' → ((K : List Block) → Q K → start K ≡ start' K) → Part f s p' Q start' rest r → Part f s p Q start rest r
  via {r = r} h e x = record { runs = λ K q. e K q ∙ x.runs K q; past = past_from s _ _ r h x.past }

  -- the answers that need no call
  pub is_more : {p : ℕ} {start : List Block → Paper ℕ} {rest : List Block → Step} → ((K : List Block) → Q K → start K ≡ more) → Part f s p Q start rest more
  unfolding resume Past
  is_more e = record { runs = e; past = tt }

  pub is_refused : {p n : ℕ} {vs : List ℕ} {start : List Block → Paper ℕ} {rest : List Block → Step} → n ≤ too_deep → ((K : List Block) → Q K → start K ≡ refused n vs) → Part f s p Q start rest (refused n vs)
  unfolding resume Past
  is_refused h e = record { runs = e; past = h }

  pub is_whole : {p q : ℕ} {start : List Block → Paper ℕ} {rest : List Block → Step} → ((K : List Block) → Q K → start K ≡ arrive (walk f s) q q (rest K)) → p ≤ q → q ≤ length s → Part f s p Q start rest (gives q)
  unfolding resume Past
  is_whole e h g = record { runs = e; past = (h, g) }

  -- where a part of the part stops, it stops
  stops_more : {p p' : ℕ} {start : List Block → Paper ℕ} {rest rest' : List Block → Step} → Part f s p Q start rest more → Part f s p' Q start rest' more
  unfolding resume
  stops_more x = is_more x.runs

  stops_refused : {p p' n : ℕ} {vs : List ℕ} {start : List Block → Paper ℕ} {rest rest' : List Block → Step} → Part f s p Q start rest (refused n vs) → Part f s p' Q start rest' (refused n vs)
  unfolding resume Past
  stops_refused x = is_refused x.past x.runs

  -- where it is whole, the run goes on
  pub goes_on : {p q : ℕ} {start : List Block → Paper ℕ} {rest : List Block → Step} → Part f s p Q start rest (gives q) → ((K : List Block) → Q K → start K ≡ arrive (walk f s) q q (rest K)) × (p ≤ q) × (q ≤ length s)
  unfolding resume Past
  goes_on x = (x.runs, x.past.0, x.past.1)

  -- 2. Why a part is not whole is why the part is not that it is in

  pub stop : {p p' : ℕ} {start : List Block → Paper ℕ} {rest rest' : List Block → Step} (w : Unwhole) → Part f s p Q start rest (unwhole_meaning w) → Part f s p' Q start rest' (unwhole_meaning w)
  stop w.Incomplete x = stops_more x
  stop (w.Refused r) x = stops_refused x

  pub none_at : {p : ℕ} {start : List Block → Paper ℕ} {rest : List Block → Step} {r : Option ℕ} (w : Unwhole) → r ≡ None → Part f s p Q start rest (unwhole_meaning w) → Part f s p Q start rest (answer_of r w)
  none_at {p} {start} {rest} w e x = subst (λ (r : Option ℕ). Part f s p Q start rest (answer_of r w)) (sym e) x

-- 3. From a place that the bytes reach, or do not

module _ (f : Format) (s : List ℕ) (p : ℕ) where
  -- what is ignored is passed
  pub skipped : {at : ℕ} {Q : List Block → Type 0} {rest : List Block → Step} {r : Paper ℕ} (blocks : List Block → List Block) (d : Due) → p ≡ skip_of f s at → Part f s (suc p) Q (λ K. walk f s p (blocks K) d) rest r → Part f s (suc at) Q (λ K. walk f s at (blocks K) d) rest r
  skipped {at} blocks d e x = via (omega (arith, skip_on f s at p e)) (λ K q. walk_skip f s at (blocks K) d p e) x

  -- at the end of the bytes
  pub ended : {p' : ℕ} {Q : List Block → Type 0} {rest : List Block → Step} (blocks : List Block → List Block) (d : Due) → length s ≤ p → Part f s p' Q (λ K. walk f s p (blocks K) d) rest more
  ended blocks d h = is_more (λ K q. walk_more f s p (blocks K) d (ends f s p h))

  -- the token there is not whole, or is not due
  pub not_due : {p' : ℕ} {Q : List Block → Type 0} {rest : List Block → Step} {r : Paper ℕ} (w : ℕ) (blocks : List Block → List Block) (d : Due) → w ≤ too_deep → ((k : Kind) (first next : ℕ) → kind_at f s p ≡ gives (spot k first next) → (K : List Block) → step d (blocks K) k ≡ wrong w) → r ≡ why_of w (kind_at f s p) → Part f s p' Q (λ K. walk f s p (blocks K) d) rest r
  unfolding on_read why_of arrive
  not_due {p'} {Q} {rest} {r} w blocks d g table e = subst (Part f s p' Q (λ K. walk f s p (blocks K) d) rest) (sym e) (by (kind_at f s p) refl)
    where
      start : (t : Paper (Spot Kind)) → kind_at f s p ≡ t → (K : List Block) → walk f s p (blocks K) d ≡ on_read (walk f s) (blocks K) d t
      start t i K = walk_unfolds f s p (blocks K) d ∙ ap (on_read (walk f s) (blocks K) d) i

      by : (t : Paper (Spot Kind)) → kind_at f s p ≡ t → Part f s p' Q (λ K. walk f s p (blocks K) d) rest (why_of w t)
      by (gives (spot k first next)) i = is_refused g (λ K q. start (gives (spot k first next)) i K ∙ ap (arrive (walk f s) first next) (table k first next i K))
      by more i = is_more (λ K q. start more i K)
      by (refused n vs) i = is_refused (let x = refused_is f s p i in omega (arith, x.1)) (λ K q. start (refused n vs) i K)

  module _ (here : skip_of f s p ≡ p) where
    -- a mark of one byte
    module _ {b : ℕ} {k : Kind} (mark : Mark b k) (within : p < length s) (byte : get_or s p 0 ≡ b) where
      pub on : (K : List Block) (d : Due) (u : Step) → step d K k ≡ u → walk f s p K d ≡ arrive (walk f s) p (p + 1) u
      on K d u e = walk_token f s p K d (mark_here f s p mark within here byte) ∙ ap (arrive (walk f s) p (p + 1)) e

      pub mark_wrong : {p' : ℕ} {Q : List Block → Type 0} {rest : List Block → Step} {r : Paper ℕ} (w : ℕ) (blocks : List Block → List Block) (d : Due) → w ≤ too_deep → ((K : List Block) → step d (blocks K) k ≡ wrong w) → r ≡ why_of w (kind_at f s p) → Part f s p' Q (λ K. walk f s p (blocks K) d) rest r
      unfolding why_of arrive
      mark_wrong {p'} {Q} {rest} {r} w blocks d g table e = subst (Part f s p' Q (λ K. walk f s p (blocks K) d) rest) (sym (e ∙ ap (why_of w) (mark_here f s p mark within here byte))) (is_refused g (λ K q. on (blocks K) d (wrong w) (table K)))

    module _ (depth : ℕ) where
      -- a block that can't be opened
      pub too : {p' : ℕ} {rest : List Block → Step} {b : ℕ} {k : Kind} (mark : Mark b k) (block : Block) (due d : Due) → p < length s → get_or s p 0 ≡ b → ((K : List Block) → step due K k ≡ opened block d K) → depth ≡ most_open → Part f s p' (λ K. length K ≡ depth) (λ K. walk f s p K due) rest (refused too_deep (p ∷ []))
      unfolding arrive
      too {p'} {rest} mark block due d h i e g = is_refused (omega arith) (λ K q. on mark h i K due deep (e K ∙ too_deep_lem block d K (q ∙ g)))

      -- a block that is
      pub into : {r : Paper ℕ} {b : ℕ} {k : Kind} (mark : Mark b k) (block : Block) (due d : Due) → p < length s → get_or s p 0 ≡ b → ((K : List Block) → step due K k ≡ opened block d K) → depth ≤ most_open → (depth ≡ most_open → ⊥) → Part f s (suc (p + 1)) (λ K. suc (length K) ≡ depth + 1) (λ K. walk f s (p + 1) (block ∷ K) d) (closed block) r → Part f s (suc (p + 1)) (λ K. length K ≡ depth) (λ K. walk f s p K due) (closed block) r
      unfolding arrive
      into mark block due d h i e g v x = record { runs = λ K q. on mark h i K due (go (block ∷ K) d) (e K ∙ not_deep block d K (omega arith)) ∙ x.runs K (omega arith); past = x.past }

      -- scan_begun
      pub begun_in : {r : Paper ℕ} (c : Bool) (b : Block) → ((K : List Block) → closed b K ≡ after K) → Part f s (suc (p + 1)) (λ K. length K ≡ depth) (λ K. walk f s p K (due_of c)) (closed b) r → Begun f s p depth c r
      begun_in {r} c b v x = record { runs = λ K q. x.runs K q ∙ ap (λ (u : Step). resume f s u r) (v K); past = past_from s _ _ r (omega arith) x.past }

      pub begun_attributed : {r : Paper ℕ} (c : Bool) → c ≡ false → p < length s → get_or s p 0 ≡ 0x3C → depth ≤ most_open → (depth ≡ most_open → ⊥) → Attributed f s (p + 1) depth r → Begun f s p depth c r
      unfolding arrive
      begun_attributed c e h i g v x = via (omega arith) (λ K q. on attributes_open h i K (due_of c) (go (attributes ∷ K) key) (opens_attributes_lem c e K ∙ not_deep attributes key K (omega arith))) x

      pub begun_none : {r : Paper ℕ} (c : Bool) → (get_or s p 0 ≡ 0x5B → ⊥) → (get_or s p 0 ≡ 0x7B → ⊥) → (get_or s p 0 ≡ 0x3C → ⊥) → None ≡ scalar_end (kind_at f s p) → r ≡ why_of not_value (kind_at f s p) → Begun f s p depth c r
      begun_none c h g j e i = not_due not_value (λ K. K) (due_of c) (omega arith) (λ k first next t K. no_value c k (not_mark f s p here t attributes_open j) (no_scalar f s p here t e).0 (no_scalar f s p here t e).1 (not_mark f s p here t list_opens h) (not_mark f s p here t map_opens g) K) i

      -- scan_pair
      pub pair_tree : {r : Paper ℕ} → p < length s → get_or s p 0 ≡ 0x3D → Tree f s (p + 1) depth r → Part f s (suc p) (λ K. length K ≡ depth) (λ K. walk f s p K equals) after r
      unfolding arrive
      pair_tree h e x = via (omega arith) (λ K q. on equals_stands h e K equals (go K value) (equals_is K)) x

      pub pair_none : {r : Paper ℕ} → (get_or s p 0 ≡ 0x3D → ⊥) → r ≡ why_of not_equals (kind_at f s p) → Part f s (suc p) (λ K. length K ≡ depth) (λ K. walk f s p K equals) after r
      pair_none h i = not_due not_equals (λ K. K) equals (omega arith) (λ k first next t K. no_equals _ (not_mark f s p here t equals_stands h) K) i

      -- an item, in a list
      pub item_begun : {r : Paper ℕ} → (get_or s p 0 ≡ 0x5D → ⊥) → (get_or s p 0 ≡ 0x3B → ⊥) → Begun f s p depth false r → Part f s (suc p) (λ K. suc (length K) ≡ depth) (λ K. walk f s p (list ∷ K) item) (λ K. after (list ∷ K)) r
      unfolding on_read
      item_begun h g x = record { runs = λ K q. walk_unfolds f s p (list ∷ K) item ∙ by (list ∷ K) (kind_at f s p) refl ∙ sym (walk_unfolds f s p (list ∷ K) value) ∙ x.runs (list ∷ K) q; past = x.past }
        where
          by : (K : List Block) (t : Paper (Spot Kind)) → kind_at f s p ≡ t → on_read (walk f s) K item t ≡ on_read (walk f s) K value t
          by K (gives (spot k first next)) e = ap (arrive (walk f s) first next) (begins k (not_mark f s p here e list_closes h) (not_mark f s p here e separator_stands g) K)
          by K more e = refl
          by K (refused m vs) e = refl

      pub key_none : {Q : List Block → Type 0} {rest : List Block → Step} {r : Paper ℕ} (b : Block) → (get_or s p 0 ≡ 0x7D → ⊥) → (get_or s p 0 ≡ 0x3E → ⊥) → (get_or s p 0 ≡ 0x3B → ⊥) → None ≡ string_end (kind_at f s p) → r ≡ why_of not_key (kind_at f s p) → Part f s (suc p) Q (λ K. walk f s p (b ∷ K) key) rest r
      key_none b h g i e w = not_due not_key (λ K. b ∷ K) key (omega arith) (λ j first next t K. no_key _ (no_text f s p here t e) (not_mark f s p here t map_closes h) (not_mark f s p here t attributes_close g) (not_mark f s p here t separator_stands i) (b ∷ K)) w

  -- 4. Strings and scalars

  module _ (q : ℕ) where
    pub scalar_run : (b : Bool) → Some q ≡ scalar_end (kind_at f s p) → ((K : List Block) → walk f s p K (due_of b) ≡ arrive (walk f s) q q (after K)) × (p < q) × (q ≤ length s)
    scalar_run b = by (ending (kind_at f s p)) refl
      where
        is : (k : Kind) (first next : ℕ) → kind_at f s p ≡ gives (spot k first next) → q ≡ next → ((K : List Block) → step (due_of b) K k ≡ after K) → ((K : List Block) → walk f s p K (due_of b) ≡ arrive (walk f s) q q (after K)) × (p < q) × (q ≤ length s)
        is k first next t e v = let g = token_grows f s p t in rw e ((λ K. walk_token f s p K (due_of b) t ∙ ap (arrive (walk f s) first next) (v K) ∙ arrive_after (walk f s) first next K), g.0, g.1)

        by : {t : Paper (Spot Kind)} → Ending t → kind_at f s p ≡ t → Some q ≡ scalar_end t → ((K : List Block) → walk f s p K (due_of b) ≡ arrive (walk f s) q q (after K)) × (p < q) × (q ≤ length s)
        by (text_ends {a} {n}) t e = let i : q ≡ n = cc in is Text a n t i (text_whole b)
        by (scalar_ends {a} {n}) t e = let i : q ≡ n = cc in is Scalar a n t i (scalar_whole b)
        by (none_ends g h) t e = let x = e ∙ h in absurd cc

    pub string_run : Some q ≡ string_end (kind_at f s p) → ((K : List Block) → walk f s p K key ≡ walk f s q K equals) × (p < q) × (q ≤ length s)
    unfolding arrive
    string_run = by (ending (kind_at f s p)) refl
      where
        by : {t : Paper (Spot Kind)} → Ending t → kind_at f s p ≡ t → Some q ≡ string_end t → ((K : List Block) → walk f s p K key ≡ walk f s q K equals) × (p < q) × (q ≤ length s)
        by (text_ends {a} {n}) t e = let i : q ≡ n = cc in let g = token_grows f s p t in rw i ((λ K. walk_token f s p K key t ∙ ap (arrive (walk f s) a n) (key_is K)), g.0, g.1)
        by scalar_ends t e = absurd cc
        by (none_ends g h) t e = let x = e ∙ g in absurd cc

  module _ (depth : ℕ) where
    pub begun_whole : (c : Bool) (q : ℕ) → Some q ≡ scalar_end (kind_at f s p) → Begun f s p depth c (gives q)
    begun_whole c q e = let g = scalar_run q c e in is_whole (λ K i. g.0 K) g.1 g.2

    -- a pair, in a map or an attribute block: its key ends at k
    pub key_pair : {r : Paper ℕ} (k : ℕ) (b : Block) → Some k ≡ string_end (kind_at f s p) → Pair f s k depth r → Part f s (suc p) (λ K. suc (length K) ≡ depth) (λ K. walk f s p (b ∷ K) key) (λ K. after (b ∷ K)) r
    key_pair {r} k b e x = let g = string_run k e in record { runs = λ K q. g.0 (b ∷ K) ∙ x.runs (b ∷ K) q; past = past_from s _ _ r (omega (arith, g.1)) x.past }

    -- scan_attributed
    pub attributed_in : {r : Paper ℕ} → Pairs f s p (depth + 1) true r → Part f s (suc p) (λ K. length K ≡ depth) (λ K. walk f s p (attributes ∷ K) key) (λ K. go K object) r
    unfolding closed
    attributed_in x = record { runs = λ K q. x.runs K (omega arith); past = x.past }

    pub attributed_then : {r : Paper ℕ} (q o : ℕ) → Pairs f s p (depth + 1) true (gives q) → o ≡ skip_of f s q → Begun f s o depth true r → Attributed f s p depth r
    unfolding arrive
    attributed_then q o x e y = let g = goes_on (attributed_in x) in via (omega (arith, g.1, skip_on f s q o e)) (λ K c. g.0 K c ∙ walk_skip f s q K object o e) y

-- 5. scan_list and scan_fragment: a block b in which d is due. The run from the loop's start is the run from here

abbrev pub Here : Format → List ℕ → Block → Due → ℕ → ℕ → ℕ → Type 0
Here f s b d depth from at = (from ≤ at) × ((K : List Block) → suc (length K) ≡ depth → walk f s from (b ∷ K) d ≡ walk f s at (b ∷ K) d)

module _ (f : Format) (s : List ℕ) (b : Block) (d : Due) (depth from at : ℕ) (until : Here f s b d depth from at) (p : ℕ) (skips : p ≡ skip_of f s at) where
  abbrev Rest : ℕ → Paper ℕ → Type 0
  Rest p r = Part f s (suc p) (λ K. suc (length K) ≡ depth) (λ K. walk f s p (b ∷ K) d) (closed b) r

  pub from_here : {r : Paper ℕ} → Part f s (suc p) (λ K. suc (length K) ≡ depth) (λ K. walk f s p (b ∷ K) d) (closed b) r → Rest from r
  from_here x = via (omega arith) until.1 (skipped f s p (λ K. b ∷ K) d skips x)

  -- the block's end
  pub block_end : {c : ℕ} {k : Kind} (mark : Mark c k) → p < length s → get_or s p 0 ≡ c → ((K : List Block) → step d (b ∷ K) k ≡ closed b K) → Rest from (gives (p + 1))
  block_end mark h g e = from_here (is_whole (λ K q. on f s p (skip_here f s at p skips) mark h g (b ∷ K) d (closed b K) (e K) ∙ arrive_closed (walk f s) p (p + 1) b K) (omega arith) (omega arith))

  -- `;`
  pub block_next : p < length s → get_or s p 0 ≡ 0x3B → ((K : List Block) → step d (b ∷ K) Semicolon ≡ go (b ∷ K) d) → Here f s b d depth from (p + 1)
  unfolding arrive
  block_next h g e = (omega (arith, skip_on f s at p skips), λ K q. until.1 K q ∙ walk_skip f s at (b ∷ K) d p skips ∙ on f s p (skip_here f s at p skips) separator_stands h g (b ∷ K) d (go (b ∷ K) d) (e K))

  -- an item or a pair, behind which the same is due
  pub block_more : (q : ℕ) → ((K : List Block) → after (b ∷ K) ≡ go (b ∷ K) d) → Part f s (suc p) (λ K. suc (length K) ≡ depth) (λ K. walk f s p (b ∷ K) d) (λ K. after (b ∷ K)) (gives q) → Here f s b d depth from q
  unfolding arrive
  block_more q v x = let y = goes_on x in (omega (arith, y.1, skip_on f s at p skips), λ K c. until.1 K c ∙ walk_skip f s at (b ∷ K) d p skips ∙ y.0 K c ∙ ap (arrive (walk f s) q q) (v K))

  -- one that is not whole
  pub block_stop : (w : Unwhole) → Part f s (suc p) (λ K. suc (length K) ≡ depth) (λ K. walk f s p (b ∷ K) d) (λ K. after (b ∷ K)) (unwhole_meaning w) → Rest from (unwhole_meaning w)
  block_stop w x = from_here (stop w x)
