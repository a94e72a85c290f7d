use Rattle.exi_ports.proofs.mem_shelf.MemShelfShelf.fetch.Goals as goal

pub returns-then-matches-2-clause-fails : goal.returns-then-matches-2-clause-fails
returns-then-matches-2-clause-fails c = rw (← c.self.view_is, ← c.saturating_add-call.ensures, ← c.deref.ensures.value, ← c.deref-2.ensures.value) c.answer-answer.ensures.fails
