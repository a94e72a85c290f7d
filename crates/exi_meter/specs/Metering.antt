-- What a meter counts, against which limits, and what each call makes of it. The limits are the codec's own:
-- the W3C recommendation sets none.
use Rattle.std.specs.Prelude.{ℕ, ◌+◌, ◌-◌, ◌≤◌, max, Bool, ◌&&◌, nat_le}
use Rattle.exi_meter.specs.declared.limits.TheConstants.{MAX_DEPTH, MAX_EVENTS, MAX_TEXT}
use Rattle.exi_meter.specs.declared.tally.Tally.{Tally}

-- the most events, units of text and open elements
pub record Bounds : Type 0 where
  pub events : ℕ
  pub text : ℕ
  pub depth : ℕ

abbrev pub bounds_of : ℕ → ℕ → ℕ → Bounds
bounds_of events text depth = record { events = events; text = text; depth = depth }

-- the limits of a stream: 16,777,216 events, 268,435,456 units of text, 512 open elements
abbrev pub stream_bounds : Bounds
stream_bounds = record { events = MAX_EVENTS; text = MAX_TEXT; depth = MAX_DEPTH }

-- none of them is above that of a stream
pub record IsWithinStream (bounds : Bounds) : Type 0 where
  pub events : bounds.events ≤ stream_bounds.events
  pub text : bounds.text ≤ stream_bounds.text
  pub depth : bounds.depth ≤ stream_bounds.depth

-- the limits, what was used of them, and how many elements are open now
pub record Metering : Type 0 where
  pub limits : Bounds
  pub used : Tally
  pub level : ℕ

-- nothing passes its limit, and the deepest level so far counts the open elements
pub record IsWithin (meter : Metering) : Type 0 where
  pub limits : IsWithinStream meter.limits
  pub events : meter.used.events ≤ meter.limits.events
  pub text : meter.used.text ≤ meter.limits.text
  pub level : meter.level ≤ meter.used.deepest
  pub depth : meter.used.deepest ≤ meter.limits.depth

-- the start: nothing is used and no element is open
abbrev pub nothing_used : Bounds → Metering
nothing_used limits = record { limits = limits; used = record { events = 0; text = 0; deepest = 0 }; level = 0 }

-- one more event
abbrev pub event_fits : Metering → Bool
event_fits m = nat_le (m.used.events + 1) m.limits.events

abbrev pub with_event : Metering → Metering
with_event m = record m { used = record m.used { events = m.used.events + 1 } }

-- more units of text
abbrev pub text_fits : Metering → ℕ → Bool
text_fits m units = nat_le (m.used.text + units) m.limits.text

abbrev pub with_text : Metering → ℕ → Metering
with_text m units = record m { used = record m.used { text = m.used.text + units } }

-- one more open element; the deepest level is kept
abbrev pub level_fits : Metering → Bool
level_fits m = nat_le (m.level + 1) m.limits.depth

abbrev pub with_level : Metering → Metering
with_level m = record m { used = record m.used { deepest = max m.used.deepest (m.level + 1) }; level = m.level + 1 }

-- one open element less
abbrev pub without_level : Metering → Metering
without_level m = record m { level = m.level - 1 }

-- what was counted apart, inside the open elements: its deepest level lies below theirs
abbrev pub tally_fits : Metering → Tally → Bool
tally_fits m more =
    nat_le (m.used.events + more.events) m.limits.events
    && nat_le (m.used.text + more.text) m.limits.text
    && nat_le (m.level + more.deepest) m.limits.depth

abbrev pub with_tally : Metering → Tally → Metering
with_tally m more = record m {
  used = record {
    events = m.used.events + more.events;
    text = m.used.text + more.text;
    deepest = max m.used.deepest (m.level + more.deepest);
  };
}
