-- The state of a sink over the caller's room (this project's own).
use Rattle.std.specs.Prelude.{◌∷◌, [], Some}
use Rattle.ant_base.specs.Sink.{SinkState}
use Rattle.ants_c.specs.declared.room_sink.RoomSink.{RoomSink}

-- Its state as a sink. It has no fault, since no push fails. The name of its reference precedes its bytes, so the room
-- is the same one after each push.
abbrev pub sink_of_room : RoomSink → SinkState
sink_of_room s = record { held = Some (s.room.ghost_name ∷ s.log.bytes); waiting = Some []; faults = 0 }
