-- What the forms in memory keep, and when their calls fail.
use Rattle.std.specs.Prelude.{ℕ, List, [], true, ◌≡◌, ◌<◌, Option, Some, drop, is_some, unwrap_or, length}
use Rattle.node_io.specs.Sinks.{SinkState}
use Rattle.node_io.specs.FileStates.{FilesState}
use Rattle.node_io.specs.Links.{LinkState}
use Rattle.node_io.specs.Spawners.{SpawnerState}
use Rattle.node_io.specs.Causes.{IsDue, HasRisen, one_more}
use Rattle.node_io.specs.declared.mem_sink.MemSink.{MemSink}
use Rattle.node_io.specs.declared.mem_files.MemFiles.{MemFiles}
use Rattle.node_io.specs.declared.mem_link.MemLink.{MemLink}
use Rattle.node_io.specs.declared.mem_spawner.MemSpawner.{MemSpawner}

-- the states of the forms in memory
abbrev pub sink_state : MemSink → SinkState
sink_state s = record { observable = true; taken = s.taken; faults = s.faults }

abbrev pub files_state : MemFiles → FilesState
files_state f = record {
  observable = true;
  held = f.files;
  asked = f.asked;
  made = f.made;
  left = unwrap_or f.reading [];
  target = unwrap_or f.writing [];
  reading = is_some f.reading;
  writing = is_some f.writing;
  read_faults = f.read_faults;
  write_faults = f.write_faults;
}

abbrev pub link_state : MemLink → LinkState
link_state l = record { observable = true; script = drop l.taken l.script; sent = l.sent; binds = l.binds; bound = l.peers; faults = l.faults }

abbrev pub spawner_state : MemSpawner → SpawnerState
spawner_state s = record { observable = true; statuses = s.statuses; started = s.children.0; starts = s.starts; children = s.children.1; faults = s.faults }

-- the bytes that a sink in memory may still take, or None where there is no end
abbrev pub room_of : MemSink → Option ℕ
room_of s = s.room

-- this call is among those of the sink that are to fail
abbrev pub IsDuePush : MemSink → Type 0
IsDuePush s = IsDue s.fails (one_more s.calls)

-- a sink that may take no more, and a piece that isn't empty
abbrev pub IsFull : MemSink → List ℕ → Type 0
IsFull s piece = (s.room ≡ Some 0) × (0 < length piece)

-- a growth of the sink was that found no memory
abbrev pub LacksRoom : MemSink → MemSink → Type 0
LacksRoom old new = HasRisen old.refused new.refused

-- the sink counted one call more, and its list of failing calls is as before
abbrev pub CountsPush : MemSink → MemSink → Type 0
CountsPush old new = (new.calls ≡ one_more old.calls) × (new.fails ≡ old.fails)

-- this call is among those of the files that are to fail
abbrev pub IsDueCall : MemFiles → Type 0
IsDueCall f = IsDue f.fails (one_more f.calls)

-- a growth of the files was that found no memory
abbrev pub LacksMemory : MemFiles → MemFiles → Type 0
LacksMemory old new = HasRisen old.refused new.refused

-- the files counted one call more, and their list of failing calls is as before
abbrev pub CountsCall : MemFiles → MemFiles → Type 0
CountsCall old new = (new.calls ≡ one_more old.calls) × (new.fails ≡ old.fails)

-- this call is among those of the link that are to fail
abbrev pub IsDueAtLink : MemLink → Type 0
IsDueAtLink l = IsDue l.fails (one_more l.calls)

-- a growth of the link was that found no memory
abbrev pub LinkLacksMemory : MemLink → MemLink → Type 0
LinkLacksMemory old new = HasRisen old.refused new.refused

-- the link counted one call more, and its list of failing calls is as before
abbrev pub CountsAtLink : MemLink → MemLink → Type 0
CountsAtLink old new = (new.calls ≡ one_more old.calls) × (new.fails ≡ old.fails)

-- this call is among those of the spawner that are to fail
abbrev pub IsDueAtSpawner : MemSpawner → Type 0
IsDueAtSpawner s = IsDue s.fails (one_more s.calls)

-- a growth of the spawner was that found no memory
abbrev pub SpawnerLacksMemory : MemSpawner → MemSpawner → Type 0
SpawnerLacksMemory old new = HasRisen old.refused new.refused

-- no number is left for one more child
abbrev pub HasAllChildren : MemSpawner → Type 0
HasAllChildren s = s.children.0 ≡ 4294967295

-- the spawner counted one call more, and its list of failing calls is as before
abbrev pub CountsAtSpawner : MemSpawner → MemSpawner → Type 0
CountsAtSpawner old new = (new.calls ≡ one_more old.calls) × (new.fails ≡ old.fails)
