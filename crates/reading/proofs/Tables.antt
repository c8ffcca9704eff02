-- What the tables of tokens and openers keep to: a pair opens and closes the same container, or is two quotes; what stands alone neither opens
-- nor closes; no token opens a link; only a link has a home and a link number.
use Rattle.std.specs.Prelude.{None, Option, Some}
use Prim.Native.Nat.{ℕ, ◌≤◌, ◌<◌}
use mathlib.Core.Path.{◌≡◌, refl}
use mathlib.Core.Bool.{Bool, true, false}
use native.Mathlib.Omega.{arith}
use Rattle.lex.specs.declared.lex.Kind.{Kind}
use Rattle.lex.specs.declared.lex.Kind.TheVariants.{Text, Newline, Nbsp, Hardbreak, Escape, Open, Close, Sym, Seq}
use Rattle.lex.specs.declared.lex.Delimiter.TheVariants.{Brace, BraceAsterisk, BraceCaret, BraceEqual, BraceHyphen, BracePlus, BraceTilde}
use Rattle.lex.specs.declared.lex.Delimiter.TheVariants.{BraceUnderscore, Bracket, BraceQuote1, BraceQuote2, Paren}
use Rattle.lex.specs.declared.lex.Symbol.TheVariants.{Asterisk, Caret, ExclaimBracket, Lt, Pipe, Quote1, Quote2, Tilde, Underscore, Colon}
use Rattle.lex.specs.declared.lex.Sequence.TheVariants.{Backtick, Hyphen, Period}
use Rattle.reading.specs.declared.Sort.{Sort}
use Rattle.reading.specs.declared.Sort.TheVariants as sort
use Rattle.reading.specs.declared.Marks.{Marks}
use Rattle.reading.specs.declared.Role.{Role}
use Rattle.reading.specs.declared.Role.TheVariants as role
use Rattle.reading.specs.declared.DelimEventKind.{DelimEventKind}
use Rattle.reading.specs.declared.DelimEventKind.TheVariants as makes
use Rattle.reading.specs.declared.Home.{Home}
use Rattle.reading.specs.Events.{str, symbol, nowhere, enter, exit}
use Rattle.reading.specs.Closers.{number}
use Rattle.reading.specs.Tokens.{closed_by, unclosed, closing_of, link_sort, role_of, plain, bracket}
use Rattle.reading.specs.Homes.{container_of, known, has_home, has_link}
use Rattle.reading.specs.Walked.{walk_by, link_exit}
use Rattle.reading.proofs.Matching.{Wraps, wraps-match, wraps-neither}
use Rattle.reading.proofs.Queue.{Single}

-- whether there is a kind, whether it has a home, and whether it has a link number
abbrev pub traits : ℕ → Bool × Bool × Bool
traits kind = (known kind, has_home kind, has_link kind)

-- there is the kind, and it has neither of them
abbrev pub Bare : ℕ → Type 0
Bare kind = traits kind ≡ (true, false, false)

-- or both
abbrev pub Linked : ℕ → Type 0
Linked kind = traits kind ≡ (true, true, true)

unfoldable pub KindOk : DelimEventKind → Type 0
KindOk (makes.Pair p) = Wraps (walk_by p.first nowhere) (walk_by p.second nowhere) × Bare p.first × Bare p.second
KindOk (makes.Span i) = Unit {0}
KindOk (makes.Link t) =
    (link_exit (exit t.container) ≡ true)
    × ((h : Home) → Wraps (walk_by (enter t.container) h) (walk_by (exit t.container) h))
    × Linked (enter t.container)
    × Linked (exit t.container)

pub closing-ok : (s : Sort) → KindOk (closing_of s)
unfolding KindOk closing_of walk_by link_exit container_of known has_home has_link
closing-ok sort.Span = tt
closing-ok sort.Image = tt
closing-ok sort.Strong = (wraps-match _, refl, refl)
closing-ok sort.BraceStrong = (wraps-match _, refl, refl)
closing-ok sort.Emphasis = (wraps-match _, refl, refl)
closing-ok sort.BraceEmphasis = (wraps-match _, refl, refl)
closing-ok sort.Superscript = (wraps-match _, refl, refl)
closing-ok sort.BraceSuperscript = (wraps-match _, refl, refl)
closing-ok sort.Subscript = (wraps-match _, refl, refl)
closing-ok sort.BraceSubscript = (wraps-match _, refl, refl)
closing-ok sort.Mark = (wraps-match _, refl, refl)
closing-ok sort.Delete = (wraps-match _, refl, refl)
closing-ok sort.Insert = (wraps-match _, refl, refl)
closing-ok sort.SingleQuoted = (wraps-neither, refl, refl)
closing-ok sort.DoubleQuoted = (wraps-neither, refl, refl)
closing-ok sort.ReferenceLink = (refl, (λ h. wraps-match _), refl, refl)
closing-ok sort.ReferenceImage = (refl, (λ h. wraps-match _), refl, refl)
closing-ok sort.InlineLink = (refl, (λ h. wraps-match _), refl, refl)
closing-ok sort.InlineImage = (refl, (λ h. wraps-match _), refl, refl)

-- a kind that neither opens nor closes, and has no home
abbrev pub Low : ℕ → Type 0
Low kind = (str ≤ kind) × (kind < symbol)

pub unclosed-low : (s : Sort) → Low (unclosed s)
unfolding unclosed closed_by number
unclosed-low sort.Span = omega arith
unclosed-low sort.Image = omega arith
unclosed-low sort.Strong = omega arith
unclosed-low sort.BraceStrong = omega arith
unclosed-low sort.Emphasis = omega arith
unclosed-low sort.BraceEmphasis = omega arith
unclosed-low sort.Superscript = omega arith
unclosed-low sort.BraceSuperscript = omega arith
unclosed-low sort.Subscript = omega arith
unclosed-low sort.BraceSubscript = omega arith
unclosed-low sort.Mark = omega arith
unclosed-low sort.Delete = omega arith
unclosed-low sort.Insert = omega arith
unclosed-low sort.SingleQuoted = omega arith
unclosed-low sort.DoubleQuoted = omega arith
unclosed-low sort.ReferenceLink = omega arith
unclosed-low sort.ReferenceImage = omega arith
unclosed-low sort.InlineLink = omega arith
unclosed-low sort.InlineImage = omega arith

pub link-not-single : (image inline : Bool) → Single (closing_of (link_sort image inline)) → ⊥
unfolding Single closing_of link_sort
link-not-single false false s = s
link-not-single false true s = s
link-not-single true false s = s
link-not-single true true s = s

unfoldable pub OpensOk : Option Sort → Type 0
OpensOk None = Unit {0}
OpensOk (Some s) = Single (closing_of s)

abbrev pub MarksOk : Marks → Type 0
MarksOk m = Low m.alone × OpensOk m.opens

unfoldable pub RoleOk : Role → Type 0
RoleOk role.Backticks = Unit {0}
RoleOk role.Brace = Unit {0}
RoleOk role.Lt = Unit {0}
RoleOk role.Colon = Unit {0}
RoleOk role.Bracket = Unit {0}
RoleOk role.Paren = Unit {0}
RoleOk role.Periods = Unit {0}
RoleOk role.Hyphens = Unit {0}
RoleOk (role.Other m) = MarksOk m

pub plain_ok : (kind : ℕ) → Low kind → MarksOk (plain kind)
unfolding OpensOk
plain_ok kind l = (l, tt)

pub bracket-ok : MarksOk bracket
unfolding OpensOk Single closing_of
bracket-ok = (omega arith, tt)

pub role-ok : (k : Kind) → RoleOk (role_of k)
unfolding RoleOk OpensOk Single closing_of role_of
role-ok Text = (omega arith, tt)
role-ok Newline = (omega arith, tt)
role-ok Nbsp = (omega arith, tt)
role-ok Hardbreak = (omega arith, tt)
role-ok Escape = (omega arith, tt)
role-ok (Open Brace) = tt
role-ok (Open BraceAsterisk) = (omega arith, tt)
role-ok (Open BraceCaret) = (omega arith, tt)
role-ok (Open BraceEqual) = (omega arith, tt)
role-ok (Open BraceHyphen) = (omega arith, tt)
role-ok (Open BracePlus) = (omega arith, tt)
role-ok (Open BraceTilde) = (omega arith, tt)
role-ok (Open BraceUnderscore) = (omega arith, tt)
role-ok (Open Bracket) = tt
role-ok (Open BraceQuote1) = (omega arith, tt)
role-ok (Open BraceQuote2) = (omega arith, tt)
role-ok (Open Paren) = tt
role-ok (Close Brace) = (omega arith, tt)
role-ok (Close BraceAsterisk) = (omega arith, tt)
role-ok (Close BraceCaret) = (omega arith, tt)
role-ok (Close BraceEqual) = (omega arith, tt)
role-ok (Close BraceHyphen) = (omega arith, tt)
role-ok (Close BracePlus) = (omega arith, tt)
role-ok (Close BraceTilde) = (omega arith, tt)
role-ok (Close BraceUnderscore) = (omega arith, tt)
role-ok (Close Bracket) = (omega arith, tt)
role-ok (Close BraceQuote1) = (omega arith, tt)
role-ok (Close BraceQuote2) = (omega arith, tt)
role-ok (Close Paren) = (omega arith, tt)
role-ok (Sym Asterisk) = (omega arith, tt)
role-ok (Sym Caret) = (omega arith, tt)
role-ok (Sym ExclaimBracket) = (omega arith, tt)
role-ok (Sym Lt) = tt
role-ok (Sym Pipe) = (omega arith, tt)
role-ok (Sym Quote1) = (omega arith, tt)
role-ok (Sym Quote2) = (omega arith, tt)
role-ok (Sym Tilde) = (omega arith, tt)
role-ok (Sym Underscore) = (omega arith, tt)
role-ok (Sym Colon) = tt
role-ok (Seq Backtick) = tt
role-ok (Seq Hyphen) = tt
role-ok (Seq Period) = tt
