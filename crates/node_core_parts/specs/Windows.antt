-- Windows that stand for what was taken on each device.
use Rattle.std.specs.Prelude.{◌≡◌, List, [], ◌∷◌}
use Rattle.plan_base.specs.declared.stamp.Version.{Version}
use Rattle.plan_base.specs.declared.stamp.Version.TheVariants.{One, Two}
use Rattle.replay_window.specs.Seen.{Seen}
use Rattle.replay_window.specs.Stands.{WindowStands}
use Rattle.replay_window.specs.declared.window.Window.{Window}
use Rattle.node_core_spec.specs.State.{none_seen}

-- each window stands for what its device took
abbrev pub AllSeen : List Seen → List Window → Type 0
AllSeen [] [] = Unit {0}
AllSeen [] (w ∷ ws) = ⊥
AllSeen (t ∷ ts) [] = ⊥
AllSeen (t ∷ ts) (w ∷ ws) = WindowStands t w × AllSeen ts ws

-- the windows of a node of a version: under version 1 there are none, and nothing was taken
abbrev pub SeenUnder : Version → List Seen → List Window → Type 0
SeenUnder One seen windows = (seen ≡ none_seen) × (windows ≡ [])
SeenUnder Two seen windows = AllSeen seen windows
