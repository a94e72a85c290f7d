use Rattle.exi_names.proofs.Others.{other_binary, other_boolean, other_chars, other_choice, other_list, other_moment, other_name, other_small}
use Rattle.exi_names.proofs.datatype.Datatype.+same.Goals as goal

pub returns-in_default : goal.returns-in_default
returns-in_default t c = rw c.in_default.is-0 (other_small c.in_default.field-0-0 c.in_default.field-1-0 c.args.other.now c.in_default.not-Small-1)

pub returns-in_default-7 : goal.returns-in_default-7
returns-in_default-7 t c = rw c.in_default.is-0 (other_boolean c.in_default.field-0-0 c.args.other.now c.in_default.not-Boolean-1)

pub returns-in_default-8 : goal.returns-in_default-8
returns-in_default-8 t c = rw c.in_default.is-0 (other_binary c.in_default.field-0-0 c.args.other.now c.in_default.not-Binary-1)

pub returns-in_default-9 : goal.returns-in_default-9
returns-in_default-9 t c = rw c.in_default.is-0 (other_moment c.in_default.field-0-0 c.args.other.now c.in_default.not-Moment-1)

pub returns-in_default-10 : goal.returns-in_default-10
returns-in_default-10 t c = rw c.in_default.is-0 (other_list c.in_default.field-0-0 c.args.other.now c.in_default.not-List-1)

pub returns-in_default-11 : goal.returns-in_default-11
returns-in_default-11 t c = rw c.in_default.is-0 (other_choice c.in_default.field-0-0 c.in_default.field-1-0 c.args.other.now c.in_default.not-Choice-1)

pub returns-in_default-12 : goal.returns-in_default-12
returns-in_default-12 t c = rw c.in_default.is-0 (other_chars c.in_default.field-0-0 c.args.other.now c.in_default.not-Chars-1)

pub returns-in_default-13 : goal.returns-in_default-13
returns-in_default-13 t c = rw c.in_default.is-0 (other_name c.in_default.field-0-0 c.args.other.now c.in_default.not-Name-1)
