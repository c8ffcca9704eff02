use Rattle.std.proofs.Common.{◌≡◌, ◌++◌, [], ◌∷◌, ap, subst, arith, decimal, take, get_or, ◌∙◌}
use Rattle.std.proofs.KnownBytes.{Appends-trans}
use Rattle.std.specs.Io.KnownBytes.{Appends}
use Rattle.printing.proofs.Lines.{joined, joined_more, joined_first}
use Rattle.printing.proofs.write_line.Goals as goal
use Rattle.printing.proofs.write_line.Goals.{then-i-gt0, else-i-gt0}

pub loop-i-preserved : goal.loop-i-preserved
loop-i-preserved g c =
    let so_far = joined (take c.loop-i.i c.args.numbers.now) in
    let number = decimal (get_or c.args.numbers.now c.loop-i.i 0) in
    let written : Appends _ _ (so_far ++ (c.if-i-gt0.blank.now ++ number)) = Appends-trans _ _ _ _ _ c.loop-i.invariant c.in_ok-write.ensures.bytes in
    elim c.if-i-gt0.branch [
      | then-i-gt0 w ↦
          let e : c.if-i-gt0.blank.now ≡ 32 ∷ [] = ap (λ r. r.now) w.blank-is in
          subst (Appends _ _) (ap (λ b. so_far ++ (b ++ number)) e ∙ joined_more _ _ (omega arith) (omega arith)) written
      | else-i-gt0 w ↦
          let e : c.if-i-gt0.blank.now ≡ [] = ap (λ r. r.now) w.blank-is in
          subst (Appends _ _) (ap (λ b. so_far ++ (b ++ number)) e ∙ joined_first _ _ (omega arith) (omega arith)) written
    ]
