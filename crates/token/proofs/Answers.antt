-- No two answers about a token mean the same: from what an answer means the answer is found again. Assumes nothing.
use mathlib.Core.Path.{◌≡◌, refl, sym, ap, ◌∙◌}
use mathlib.Core.List.{List, [], ◌∷◌}
use Prim.Native.Nat.{ℕ}
use lib.Dec.{eqb}
use Rattle.refusal.specs.Numbers.{not_string, beyond_slice}
use Rattle.refusal.specs.Paper.{Paper, gives, more, refused, Got, got, Spot, spot, pick}
use Rattle.refusal.specs.Meaning.{named_by}
use Rattle.refusal.proofs.Laws.{named_by_its_number}
use Rattle.token.specs.Meaning.{read_meaning}
use Rattle.token.specs.Strings.{unescaped_meaning}
use Rattle.token.specs.declared.Token.{Token}
use Rattle.refusal.specs.declared.Unread.{Unread}
use Rattle.refusal.specs.declared.Unread.TheVariants as u
use Rattle.token.specs.declared.Placed.{Placed}
use Rattle.token.specs.declared.Copied.{Copied}
use Rattle.token.specs.declared.NoBytes.{NoBytes}
use Rattle.token.specs.declared.NoBytes.TheVariants as none
use Rattle.std.specs.Prelude.{Result, Ok, Err}

unread_of : ℕ → List ℕ → Unread
unread_of n [] = u.Beyond
unread_of n (p ∷ ps) = u.Refused (named_by n p)

read_of : Paper (Spot Token) → Result Placed Unread
read_of (gives (spot t first next)) = Ok (record { token = t; first = first; next = next })
read_of more = Err u.Incomplete
read_of (refused n vs) = Err (unread_of n vs)

read_again : (a : Result Placed Unread) → read_of (read_meaning a) ≡ a
unfolding read_of unread_of
read_again (Ok p) = refl
read_again (Err u.Incomplete) = refl
read_again (Err (u.Refused x)) = ap (λ y. Err (u.Refused y)) (named_by_its_number x)
read_again (Err u.Beyond) = refl

pub read_injective : (a b : Result Placed Unread) → read_meaning a ≡ read_meaning b → a ≡ b
read_injective a b e = sym (read_again a) ∙ ap read_of e ∙ read_again b

unescaped_of : Paper (Got ℕ) → Result Copied NoBytes
unescaped_of (gives (got count next)) = Ok (record { count = count; next = next })
unescaped_of more = Err (none.Unread u.Incomplete)
unescaped_of (refused n []) = Err (pick (eqb n beyond_slice) (none.Unread u.Beyond) (pick (eqb n not_string) none.NotString none.Short))
unescaped_of (refused n (p ∷ ps)) = Err (none.Unread (u.Refused (named_by n p)))

unescaped_again : (a : Result Copied NoBytes) → unescaped_of (unescaped_meaning a) ≡ a
unfolding unescaped_of
unescaped_again (Ok c) = refl
unescaped_again (Err (none.Unread u.Incomplete)) = refl
unescaped_again (Err (none.Unread (u.Refused x))) = ap (λ y. Err (none.Unread (u.Refused y))) (named_by_its_number x)
unescaped_again (Err (none.Unread u.Beyond)) = refl
unescaped_again (Err none.NotString) = refl
unescaped_again (Err none.Short) = refl

pub unescaped_injective : (a b : Result Copied NoBytes) → unescaped_meaning a ≡ unescaped_meaning b → a ≡ b
unescaped_injective a b e = sym (unescaped_again a) ∙ ap unescaped_of e ∙ unescaped_again b
