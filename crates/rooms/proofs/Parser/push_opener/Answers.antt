-- `Parser::push_opener` meets its contract, by the laws of `Search`.
use mathlib.Core.Path.{refl, ap}
use mathlib.Core.List.{List}
use native.Mathlib.Numerals.{towards_suc}
use lib.ListN.{length-set}
use Rattle.reading.specs.declared.Opener.{Opener}
use Rattle.reading.specs.Machine.{with_openers}
use Rattle.rooms.specs.Steps.{state, staying}
use Rattle.rooms.proofs.Search.{opened}
use Rattle.rooms.proofs.Changing.{openers-step}
use Rattle.rooms.proofs.Parser.push_opener.Goals as goal

pub returns-clause-changed : goal.returns-clause-changed
returns-clause-changed c =
    let p = c.args.self.now in
    openers-step p _ _
    (ap (λ (x : List Opener). staying p (with_openers x) (state p))
    (rw c.into.ensures (simp towards_suc (opened p.openers.now p.at.openers c.args.o c.requires.opener_numbers_in_bounds))))
    refl (simp length-set) refl refl refl
