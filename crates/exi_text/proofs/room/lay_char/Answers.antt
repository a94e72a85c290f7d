use Rattle.std.proofs.Common.{◌++◌, ◌∙◌, List, ℕ, ap, arith, sym, take}
use Rattle.exi_text.proofs.Rooms.{four_octets, three_octets, two_octets}
use Rattle.exi_text.proofs.room.lay_char.Goals as goal

pub returns-then-code-lt2048-clause-laid : goal.returns-then-code-lt2048-clause-laid
returns-then-code-lt2048-clause-laid c = c.lay-then-code-lt2048.ensures.laid ∙ ap (λ (os : List ℕ). take c.args.at c.args.room.now ++ os) (sym (two_octets c.args.c (omega (arith, c.if-code-lt128.false)) (omega (arith, c.if-code-lt2048.true))))

pub returns-then-code-lt65536-clause-laid : goal.returns-then-code-lt65536-clause-laid
returns-then-code-lt65536-clause-laid c = c.lay-then-code-lt65536.ensures.laid ∙ ap (λ (os : List ℕ). take c.args.at c.args.room.now ++ os) (sym (three_octets c.args.c (omega (arith, c.if-code-lt2048.false)) (omega (arith, c.if-code-lt65536.true))))

pub returns-clause-laid : goal.returns-clause-laid
returns-clause-laid c = c.lay-2.ensures.laid ∙ ap (λ (os : List ℕ). take c.args.at c.args.room.now ++ os) (sym (four_octets c.args.c (omega (arith, c.if-code-lt65536.false))))
