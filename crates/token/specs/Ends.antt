-- What the scan asks of a token: where it ends, if it is whole.
use Rattle.std.specs.Prelude.{ℕ, Option, Some, None}
use Rattle.refusal.specs.Paper.{Paper, gives, more, refused, Spot, spot}
use Rattle.token.specs.declared.Kind.{Kind}
use Rattle.token.specs.declared.Kind.TheVariants.{Text, Scalar, OpenList, CloseList, OpenMap, CloseMap, OpenAttributes, CloseAttributes, Equals, Semicolon}

-- the place after a token, where a whole one stands
abbrev pub end_of : {A : Type 0} → Paper (Spot A) → Option ℕ
end_of (gives (spot t first next)) = Some next
end_of more = None
end_of (refused n vs) = None

-- n where a token of this kind is a string
abbrev pub where_text : Kind → ℕ → Option ℕ
where_text Text n = Some n
where_text Scalar n = None
where_text OpenList n = None
where_text CloseList n = None
where_text OpenMap n = None
where_text CloseMap n = None
where_text OpenAttributes n = None
where_text CloseAttributes n = None
where_text Equals n = None
where_text Semicolon n = None

-- n where it is a string or another scalar
abbrev pub where_scalar : Kind → ℕ → Option ℕ
where_scalar Text n = Some n
where_scalar Scalar n = Some n
where_scalar OpenList n = None
where_scalar CloseList n = None
where_scalar OpenMap n = None
where_scalar CloseMap n = None
where_scalar OpenAttributes n = None
where_scalar CloseAttributes n = None
where_scalar Equals n = None
where_scalar Semicolon n = None

-- the place after a string, where a whole one stands
abbrev pub string_end : Paper (Spot Kind) → Option ℕ
string_end (gives (spot k first next)) = where_text k next
string_end more = None
string_end (refused n vs) = None

-- the same of a string or another scalar
abbrev pub scalar_end : Paper (Spot Kind) → Option ℕ
scalar_end (gives (spot k first next)) = where_scalar k next
scalar_end more = None
scalar_end (refused n vs) = None
