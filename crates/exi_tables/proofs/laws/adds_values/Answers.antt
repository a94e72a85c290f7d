use Rattle.exi_tables.proofs.Sound.{counted, first_sound, global, not_added, others, own, pushed_out, sound_then}
use Rattle.exi_tables.proofs.laws.adds_values.Goals as goal

pub returns : goal.returns
returns c = record {
  refused = not_added;
  counted = counted;
  global = global;
  others = others;
  own = own;
  pushed_out = pushed_out;
  start = first_sound;
  sound = sound_then;
}
