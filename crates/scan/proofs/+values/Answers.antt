-- The functions of the cycle meet their contracts: each way through them is a law of proofs/Parts.
use mathlib.Core.Path.{◌≡◌, subst}
use Prim.Native.Nat.{ℕ}
use mathlib.Core.List.{List, ◌∷◌}
use mathlib.Core.Bool.{Bool, false}
use native.Mathlib.Omega.{arith}
use Rattle.refusal.specs.Numbers.{not_value, not_key}
use Rattle.refusal.specs.Paper.{Paper}
use Rattle.refusal.specs.declared.Format.{Format}
use Rattle.lexer.specs.Lexer.{list_opens, list_closes, map_closes, attributes_open, attributes_close}
use Rattle.automaton.specs.Step.{list, value, item, key, equals}
use Rattle.scan.specs.Post.{Items, Pairs, block_of, due_of}
use Rattle.scan.proofs.Tokens.{skip_on, skip_here}
use Rattle.scan.proofs.Arms.{attributes_passed, opens_list, list_ends, item_next, key_next, after_item, after_key, map_ends, map_wrong, attributes_end, attributes_wrong, list_closed}
use Rattle.scan.proofs.Parts.{goes_on, none_at, skipped, ended, mark_wrong, too, into, begun_in, begun_whole, begun_none, pair_tree, pair_none, item_begun, key_pair, key_none, string_run, scalar_run, from_here, block_end, block_next, block_more, block_stop}
use Rattle.scan.proofs.Pairs.{pairs_too, pairs_stop, pairs_whole, pairs_then, along_here}
use Rattle.scan.proofs.+values.Goals as goal

-- the depth of an inner block is one more
items_at : {f : Format} {s : List ℕ} {p n m : ℕ} {r : Paper ℕ} → n ≡ m → Items f s p n r → Items f s p m r
items_at {f} {s} {p} {r = r} e = subst (λ (n : ℕ). Items f s p n r) e

pairs_at : {f : Format} {s : List ℕ} {p n m : ℕ} (a : Bool) {r : Paper ℕ} → n ≡ m → Pairs f s p n a r → Pairs f s p m a r
pairs_at {f} {s} {p} a {r} e = subst (λ (n : ℕ). Pairs f s p n a r) e

pub scan_begun-returns-then-input-p : goal.scan_begun-returns-then-input-p
scan_begun-returns-then-input-p t c = ended _ _ _ (λ K. K) (due_of c.args.passed) c.if-input-p.true

pub scan_begun-returns-then-is_full : goal.scan_begun-returns-then-is_full
scan_begun-returns-then-is_full t c = too _ _ _ c.requires _ list_opens list (due_of c.args.passed) item c.if-input-p.false c.if-b-eq91.true (opens_list c.args.passed) (c.is_full.ensures.0 c.if-is_full.true)

pub scan_begun-returns-then-b-eq91 : goal.scan_begun-returns-then-b-eq91
scan_begun-returns-then-b-eq91 t c = let d = c.is_full.ensures.1 c.if-is_full.false in begun_in _ _ _ c.requires _ c.args.passed list list_closed (into _ _ _ c.requires _ list_opens list (due_of c.args.passed) item c.if-input-p.false c.if-b-eq91.true (opens_list c.args.passed) (omega (arith, d)) (λ e. omega (arith, d)) (items_at (omega arith) c.scan_list.ensures))

pub scan_begun-returns-then-second_attributes : goal.scan_begun-returns-then-second_attributes
scan_begun-returns-then-second_attributes t c = let g = c.second_attributes.ensures.0 c.if-second_attributes.true in mark_wrong _ _ _ c.requires attributes_open c.if-input-p.false g.0 not_value (λ K. K) (due_of c.args.passed) (omega arith) (attributes_passed _ g.1) c.stopped.ensures

pub scan_begun-returns-then-is_full-2 : goal.scan_begun-returns-then-is_full-2
scan_begun-returns-then-is_full-2 t c = pairs_too _ _ _ c.requires _ c.args.passed c.if-input-p.false (c.opens_pairs.ensures.0 c.if-opens_pairs.true) (c.second_attributes.ensures.1 c.if-second_attributes.false) (c.is_full-then-opens_pairs.ensures.0 c.if-is_full-2.true)

pub scan_begun-returns-in_err-end : goal.scan_begun-returns-in_err-end
scan_begun-returns-in_err-end t c = let d = c.is_full-then-opens_pairs.ensures.1 c.if-is_full-2.false in none_at _ c.from_residual.ensures (pairs_stop _ _ _ c.requires _ c.args.passed c.if-input-p.false (c.opens_pairs.ensures.0 c.if-opens_pairs.true) (c.second_attributes.ensures.1 c.if-second_attributes.false) (omega (arith, d)) (λ e. omega (arith, d)) _ _ c.opens_attributes-attributes.ensures.0 c.opens_attributes-attributes.ensures.1 (pairs_at _ (omega arith) c.in_err-end.ensures))

pub scan_begun-scan_attributed-requires : goal.scan_begun-scan_attributed-requires
scan_begun-scan_attributed-requires t c = (let g = goes_on c.in_ok-end.ensures in omega (arith, g.1, g.2, skip_on _ _ _ _ c.skip-o.ensures), skip_here _ _ _ _ c.skip-o.ensures)

pub scan_begun-returns-then-attributes : goal.scan_begun-returns-then-attributes
scan_begun-returns-then-attributes t c = let d = c.is_full-then-opens_pairs.ensures.1 c.if-is_full-2.false in pairs_then _ _ _ c.requires _ c.args.passed c.if-input-p.false (c.opens_pairs.ensures.0 c.if-opens_pairs.true) (c.second_attributes.ensures.1 c.if-second_attributes.false) (omega (arith, d)) (λ e. omega (arith, d)) _ _ _ c.if-attributes.true c.opens_attributes-attributes.ensures.0 (pairs_at _ (omega arith) c.in_ok-end.ensures) c.skip-o.ensures c.scan_attributed.ensures

pub scan_begun-returns-then-opens_pairs : goal.scan_begun-returns-then-opens_pairs
scan_begun-returns-then-opens_pairs t c = let d = c.is_full-then-opens_pairs.ensures.1 c.if-is_full-2.false in pairs_whole _ _ _ c.requires _ c.args.passed c.if-input-p.false (c.opens_pairs.ensures.0 c.if-opens_pairs.true) (c.second_attributes.ensures.1 c.if-second_attributes.false) (omega (arith, d)) (λ e. omega (arith, d)) _ c.if-attributes.false c.opens_attributes-attributes.ensures.1 (pairs_at _ (omega arith) c.in_ok-end.ensures)

pub scan_begun-returns-in_default : goal.scan_begun-returns-in_default
scan_begun-returns-in_default t c = let g = c.opens_pairs.ensures.1 c.if-opens_pairs.false in begun_none _ _ _ c.requires _ c.args.passed c.if-b-eq91.false g.1 g.0 c.in_default.ensures c.stopped-in_default.ensures

pub scan_begun-returns : goal.scan_begun-returns
scan_begun-returns t c = begun_whole _ _ _ _ c.args.passed _ c.in-Some.ensures

pub scan_fragment-returns-then-input-p : goal.scan_fragment-returns-then-input-p
scan_fragment-returns-then-input-p t c = from_here _ _ (block_of c.args.attributes) key _ _ _ (along_here _ _ c.args.attributes _ _ _ _ c.loop-depth.invariant c.past_pairs-q.ensures) _ c.skip-p.ensures (ended _ _ _ (λ K. (block_of c.args.attributes) ∷ K) key c.if-input-p.true)

pub scan_fragment-returns-then-attributes : goal.scan_fragment-returns-then-attributes
scan_fragment-returns-then-attributes t c = from_here _ _ (block_of c.args.attributes) key _ _ _ (along_here _ _ c.args.attributes _ _ _ _ c.loop-depth.invariant c.past_pairs-q.ensures) _ c.skip-p.ensures (mark_wrong _ _ _ (skip_here _ _ _ _ c.skip-p.ensures) map_closes c.if-input-p.false c.if-b-eq125.true not_key (λ K. (block_of c.args.attributes) ∷ K) key (omega arith) (λ K. map_wrong _ K c.if-attributes.true) c.stopped.ensures)

pub scan_fragment-returns-then-b-eq125 : goal.scan_fragment-returns-then-b-eq125
scan_fragment-returns-then-b-eq125 t c = block_end _ _ (block_of c.args.attributes) key _ _ _ (along_here _ _ c.args.attributes _ _ _ _ c.loop-depth.invariant c.past_pairs-q.ensures) _ c.skip-p.ensures map_closes c.if-input-p.false c.if-b-eq125.true (λ K. map_ends _ K c.if-attributes.false)

pub scan_fragment-returns-then-attributes-2 : goal.scan_fragment-returns-then-attributes-2
scan_fragment-returns-then-attributes-2 t c = block_end _ _ (block_of c.args.attributes) key _ _ _ (along_here _ _ c.args.attributes _ _ _ _ c.loop-depth.invariant c.past_pairs-q.ensures) _ c.skip-p.ensures attributes_close c.if-input-p.false c.if-b-eq62.true (λ K. attributes_end _ K c.if-attributes-2.true)

pub scan_fragment-returns-then-b-eq62 : goal.scan_fragment-returns-then-b-eq62
scan_fragment-returns-then-b-eq62 t c = from_here _ _ (block_of c.args.attributes) key _ _ _ (along_here _ _ c.args.attributes _ _ _ _ c.loop-depth.invariant c.past_pairs-q.ensures) _ c.skip-p.ensures (mark_wrong _ _ _ (skip_here _ _ _ _ c.skip-p.ensures) attributes_close c.if-input-p.false c.if-b-eq62.true not_key (λ K. (block_of c.args.attributes) ∷ K) key (omega arith) (λ K. attributes_wrong _ K c.if-attributes-2.false) c.stopped-then-b-eq62.ensures)

pub scan_fragment-loop-depth-smaller-then-b-eq59 : goal.scan_fragment-loop-depth-smaller-then-b-eq59
scan_fragment-loop-depth-smaller-then-b-eq59 t c = omega (arith, skip_on _ _ _ _ c.skip-p.ensures, c.past_pairs-q.ensures.0)

pub scan_fragment-loop-depth-preserved-then-b-eq59 : goal.scan_fragment-loop-depth-preserved-then-b-eq59
scan_fragment-loop-depth-preserved-then-b-eq59 t c = block_next _ _ (block_of c.args.attributes) key _ _ _ (along_here _ _ c.args.attributes _ _ _ _ c.loop-depth.invariant c.past_pairs-q.ensures) _ c.skip-p.ensures c.if-input-p.false c.if-b-eq59.true (λ K. key_next ((block_of c.args.attributes) ∷ K))

pub scan_fragment-returns-in_default : goal.scan_fragment-returns-in_default
scan_fragment-returns-in_default t c = from_here _ _ (block_of c.args.attributes) key _ _ _ (along_here _ _ c.args.attributes _ _ _ _ c.loop-depth.invariant c.past_pairs-q.ensures) _ c.skip-p.ensures (key_none _ _ _ (skip_here _ _ _ _ c.skip-p.ensures) 0 (block_of c.args.attributes) c.if-b-eq125.false c.if-b-eq62.false c.if-b-eq59.false c.in_default.ensures c.stopped-in_default.ensures)

pub scan_fragment-scan_pair-requires : goal.scan_fragment-scan_pair-requires
scan_fragment-scan_pair-requires t c = let g = string_run c.args.format _ _ _ c.in-Some.ensures in omega (arith, g.1, g.2, (along_here _ _ c.args.attributes _ _ _ _ c.loop-depth.invariant c.past_pairs-q.ensures).0, skip_on _ _ _ _ c.skip-p.ensures, c.past_pairs-q.ensures.0)

pub scan_fragment-returns-in_err-at : goal.scan_fragment-returns-in_err-at
scan_fragment-returns-in_err-at t c = none_at _ c.from_residual.ensures (block_stop _ _ (block_of c.args.attributes) key _ _ _ (along_here _ _ c.args.attributes _ _ _ _ c.loop-depth.invariant c.past_pairs-q.ensures) _ c.skip-p.ensures _ (key_pair _ _ _ _ _ (block_of c.args.attributes) c.in-Some.ensures c.in_err-at.ensures))

pub scan_fragment-loop-depth-smaller : goal.scan_fragment-loop-depth-smaller
scan_fragment-loop-depth-smaller t c = let g = goes_on c.in_ok-at.ensures in let h = string_run c.args.format _ _ _ c.in-Some.ensures in omega (arith, g.1, g.2, h.1, skip_on _ _ _ _ c.skip-p.ensures, c.past_pairs-q.ensures.0)

pub scan_fragment-loop-depth-preserved : goal.scan_fragment-loop-depth-preserved
scan_fragment-loop-depth-preserved t c = block_more _ _ (block_of c.args.attributes) key _ _ _ (along_here _ _ c.args.attributes _ _ _ _ c.loop-depth.invariant c.past_pairs-q.ensures) _ c.skip-p.ensures _ (after_key c.args.attributes) (key_pair _ _ _ _ _ (block_of c.args.attributes) c.in-Some.ensures c.in_ok-at.ensures)

pub scan_list-returns-then-input-p : goal.scan_list-returns-then-input-p
scan_list-returns-then-input-p t c = from_here _ _ list item _ _ _ c.loop-depth.invariant _ c.skip-p.ensures (ended _ _ _ (λ K. list ∷ K) item c.if-input-p.true)

pub scan_list-returns-then-b-eq93 : goal.scan_list-returns-then-b-eq93
scan_list-returns-then-b-eq93 t c = block_end _ _ list item _ _ _ c.loop-depth.invariant _ c.skip-p.ensures list_closes c.if-input-p.false c.if-b-eq93.true list_ends

pub scan_list-loop-depth-smaller-then-b-eq59 : goal.scan_list-loop-depth-smaller-then-b-eq59
scan_list-loop-depth-smaller-then-b-eq59 t c = omega (arith, skip_on _ _ _ _ c.skip-p.ensures)

pub scan_list-loop-depth-preserved-then-b-eq59 : goal.scan_list-loop-depth-preserved-then-b-eq59
scan_list-loop-depth-preserved-then-b-eq59 t c = block_next _ _ list item _ _ _ c.loop-depth.invariant _ c.skip-p.ensures c.if-input-p.false c.if-b-eq59.true (λ K. item_next (list ∷ K))

pub scan_list-scan_begun-requires : goal.scan_list-scan_begun-requires
scan_list-scan_begun-requires t c = (omega (arith, c.loop-depth.invariant.0, skip_on _ _ _ _ c.skip-p.ensures), skip_here _ _ _ _ c.skip-p.ensures)

pub scan_list-returns-in_err-at-in-None : goal.scan_list-returns-in_err-at-in-None
scan_list-returns-in_err-at-in-None t c = none_at _ c.from_residual.ensures (block_stop _ _ list item _ _ _ c.loop-depth.invariant _ c.skip-p.ensures _ (item_begun _ _ _ (skip_here _ _ _ _ c.skip-p.ensures) _ c.if-b-eq93.false c.if-b-eq59.false c.in_err-at-in-None.ensures))

pub scan_list-loop-depth-smaller-in-Some : goal.scan_list-loop-depth-smaller-in-Some
scan_list-loop-depth-smaller-in-Some t c = let g = scalar_run c.args.format _ _ _ false c.in-Some.ensures in omega (arith, g.1, g.2, skip_on _ _ _ _ c.skip-p.ensures)

pub scan_list-loop-depth-preserved-in-Some : goal.scan_list-loop-depth-preserved-in-Some
scan_list-loop-depth-preserved-in-Some t c = block_more _ _ list item _ _ _ c.loop-depth.invariant _ c.skip-p.ensures _ after_item (item_begun _ _ _ (skip_here _ _ _ _ c.skip-p.ensures) _ c.if-b-eq93.false c.if-b-eq59.false (begun_whole _ _ _ _ false _ c.in-Some.ensures))

pub scan_list-loop-depth-smaller : goal.scan_list-loop-depth-smaller
scan_list-loop-depth-smaller t c = let g = goes_on c.in_ok-at-in-None.ensures in omega (arith, g.1, g.2, skip_on _ _ _ _ c.skip-p.ensures)

pub scan_list-loop-depth-preserved : goal.scan_list-loop-depth-preserved
scan_list-loop-depth-preserved t c = block_more _ _ list item _ _ _ c.loop-depth.invariant _ c.skip-p.ensures _ after_item (item_begun _ _ _ (skip_here _ _ _ _ c.skip-p.ensures) _ c.if-b-eq93.false c.if-b-eq59.false c.in_ok-at-in-None.ensures)

pub scan_pair-returns-then-input-p : goal.scan_pair-returns-then-input-p
scan_pair-returns-then-input-p t c = skipped _ _ _ (λ K. K) equals c.skip-p.ensures (ended _ _ _ (λ K. K) equals c.if-input-p.true)

pub scan_pair-scan_tree-requires : goal.scan_pair-scan_tree-requires
scan_pair-scan_tree-requires t c = omega (arith, skip_on _ _ _ _ c.skip-p.ensures)

pub scan_pair-returns-then-input-p-eq61 : goal.scan_pair-returns-then-input-p-eq61
scan_pair-returns-then-input-p-eq61 t c = skipped _ _ _ (λ K. K) equals c.skip-p.ensures (pair_tree _ _ _ (skip_here _ _ _ _ c.skip-p.ensures) _ c.if-input-p.false c.if-input-p-eq61.true c.scan_tree.ensures)

pub scan_pair-returns : goal.scan_pair-returns
scan_pair-returns t c = skipped _ _ _ (λ K. K) equals c.skip-p.ensures (pair_none _ _ _ (skip_here _ _ _ _ c.skip-p.ensures) _ c.if-input-p-eq61.false c.stopped.ensures)

pub scan_tree-scan_begun-requires : goal.scan_tree-scan_begun-requires
scan_tree-scan_begun-requires t c = (omega (arith, skip_on _ _ _ _ c.skip-p.ensures), skip_here _ _ _ _ c.skip-p.ensures)

pub scan_tree-returns : goal.scan_tree-returns
scan_tree-returns t c = skipped _ _ _ (λ K. K) value c.skip-p.ensures c.scan_begun.ensures
