use Rattle.std.proofs.Common.{◌≡◌, length, refl, subst}
use Rattle.exi_pen.proofs.PutCodes.{book_put, built_in_put, nothing_put}
use Rattle.exi_pen.proofs.pen.Pen.put_code.Goals as goal
use Rattle.exi_pen.specs.Pages.{Page}

pub returns-in-Nothing-clause-ok : goal.returns-in-Nothing-clause-ok
returns-in-Nothing-clause-ok g c = nothing_put c.args.self.now c.args.way (subst (λ (p : Page). p.config.place ≡ length p.bits) c.self.view_is refl) c.in-Nothing.is c.requires.way

pub returns-in-BuiltIn-clause-ok : goal.returns-in-BuiltIn-clause-ok
returns-in-BuiltIn-clause-ok g c = built_in_put c.write_code.result _ c.args.self.now c.write_code.new.out c.args.way c.in-BuiltIn.room c.in-BuiltIn.code c.options-options.result.now c.self.view_is c.options-options.ensures.options c.in-BuiltIn.is c.requires.way c.write_code.ensures.ok

pub returns-in-Book-clause-ok : goal.returns-in-Book-clause-ok
returns-in-Book-clause-ok g c = book_put c.write_code-in-Book.result _ c.args.self.now c.write_code-in-Book.new.out c.args.way c.in-Book.grammar c.in-Book.state c.in-Book.place c.self.view_is c.in-Book.is c.requires.way c.write_code-in-Book.ensures.ok
