-- What the answer about a token means, and what the scan sees of a token.
use Rattle.std.specs.Prelude.{Option, Some, None, Result, Ok, Err}
use Rattle.refusal.specs.Paper.{Paper, gives, more, refused, Spot, spot}
use Rattle.refusal.specs.Meaning.{unread_meaning}
use Rattle.refusal.specs.declared.Unread.{Unread}
use Rattle.token.specs.declared.Token.{Token}
use Rattle.token.specs.declared.Token.TheVariants.{BeginAttributes, EndAttributes, BeginList, EndList, BeginMap, EndMap, String, Escaped, Int64, Uint64, Double, Decimal, Boolean, Entity, KeyValueSeparator, ItemSeparator}
use Rattle.token.specs.declared.Kind.{Kind}
use Rattle.token.specs.declared.Kind.TheVariants.{Text, Scalar, OpenList, CloseList, OpenMap, CloseMap, OpenAttributes, CloseAttributes, Equals, Semicolon}
use Rattle.token.specs.declared.Extent.{Extent}
use Rattle.token.specs.declared.Extent.TheVariants as extent
use Rattle.token.specs.declared.Placed.{Placed}

-- an answer about a token: the token with the place of its first byte and the place after it, more bytes are needed, or a refusal
abbrev pub read_meaning : Result Placed Unread → Paper (Spot Token)
read_meaning (Ok p) = gives (spot p.token p.first p.next)
read_meaning (Err e) = unread_meaning e

-- the scan sees a string, another scalar, or a mark
abbrev pub kind_of : Token → Kind
kind_of BeginAttributes = OpenAttributes
kind_of EndAttributes = CloseAttributes
kind_of BeginList = OpenList
kind_of EndList = CloseList
kind_of BeginMap = OpenMap
kind_of EndMap = CloseMap
kind_of (String s n) = Text
kind_of (Escaped s n) = Text
kind_of (Int64 z) = Scalar
kind_of (Uint64 n) = Scalar
kind_of (Double x b) = Scalar
kind_of (Decimal s n) = Scalar
kind_of (Boolean q) = Scalar
kind_of Entity = Scalar
kind_of KeyValueSeparator = Equals
kind_of ItemSeparator = Semicolon

-- the same of an answer
abbrev pub kinds_of : Paper (Spot Token) → Paper (Spot Kind)
kinds_of (gives (spot t first next)) = gives (spot (kind_of t) first next)
kinds_of more = more
kinds_of (refused n vs) = refused n vs

-- where the bytes of a string stand; no other token has any
abbrev pub extent_of : Token → Option Extent
extent_of BeginAttributes = None
extent_of EndAttributes = None
extent_of BeginList = None
extent_of EndList = None
extent_of BeginMap = None
extent_of EndMap = None
extent_of (String s n) = Some (extent.Plain s n)
extent_of (Escaped s n) = Some (extent.Quoted s n)
extent_of (Int64 z) = None
extent_of (Uint64 n) = None
extent_of (Double x b) = None
extent_of (Decimal s n) = None
extent_of (Boolean q) = None
extent_of Entity = None
extent_of KeyValueSeparator = None
extent_of ItemSeparator = None
