use Rattle.exi_header.proofs.read.read_header.Goals as goal

pub returns-clause-within : goal.returns-clause-within
returns-clause-within c = rw (c.skip_padding.ensures.bytes, c.in_ok-options.ensures.bytes, c.in_ok-told.ensures.bytes, c.skip_cookie.ensures.bytes, c.new-input.ensures) at c.at.ensures.within
