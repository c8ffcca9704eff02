-- Texts, with the state that a validator reaches that is fed one from its start: as the Rust does. `Rows` proves all by one computed statement.
use Prim.Native.String.{String}
use Rattle.std.specs.Prelude.{List, [], ◌∷◌}
use Rattle.classes.specs.Classes.{bytes}
use Rattle.attr.specs.declared.attr.State.{State}
use Rattle.attr.specs.declared.attr.State.TheVariants as state
use Rattle.attr.specs.Attributes.{fed}

pub record Text : Type 0 where
  pub text : String
  pub state : State

abbrev leads : String → State → Text
leads text s = record { text = text; state = s }

unfoldable pub worked : List Text
worked =
    leads "" state.Start
    ∷ leads "{" state.Whitespace
    ∷ leads "{}" state.Done
    ∷ leads "{}}" state.Done
    ∷ leads "a" state.Invalid
    ∷ leads "{ " state.Whitespace
    ∷ leads "{ \n}" state.Done
    ∷ leads "{ {" state.Invalid
    ∷ leads "{.a}" state.Done
    ∷ leads "{.}" state.Invalid
    ∷ leads "{.a.b}" state.Invalid
    ∷ leads "{#a}" state.Done
    ∷ leads "{#}" state.Invalid
    ∷ leads "{door" state.Key
    ∷ leads "{door}" state.Invalid
    ∷ leads "{a b}" state.Invalid
    ∷ leads "{=a}" state.Invalid
    ∷ leads "{:a_b-c=d}" state.Done
    ∷ leads "{a=b}" state.Done
    ∷ leads "{a=}" state.Invalid
    ∷ leads "{a=b=c}" state.Invalid
    ∷ leads "{#a .b k=v}" state.Done
    ∷ leads "{a=\"" state.ValueQuoted
    ∷ leads "{a=\"}" state.ValueQuoted
    ∷ leads "{a=\"b\"c=d}" state.Done
    ∷ leads "{a=\"\\" state.ValueEscape
    ∷ leads "{a=\"\\\"}\"}" state.Done
    ∷ leads "{a=\"\\\n" state.ValueNewline
    ∷ leads "{a=\"\\\n\\\"}" state.Done
    ∷ leads "{a=\"\n\\" state.ValueContinued
    ∷ leads "{%" state.CommentFirst
    ∷ leads "{%a" state.Comment
    ∷ leads "{%\n" state.CommentNewline
    ∷ leads "{% }" state.Done
    ∷ leads "{%%}" state.Done
    ∷ leads "{%a% .b}" state.Done
    ∷ leads "{.a%b}" state.Invalid
    ∷ []

abbrev pub found : Text → State
found t = fed (bytes t.text) state.Start

abbrev pub expected : Text → State
expected t = t.state
