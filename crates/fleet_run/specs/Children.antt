-- Children that were started and are waited for.
use Rattle.std.specs.Prelude.{ℕ, ◌≡◌, ◌+◌, ◌≤◌, List, [], ◌∷◌, ◌++◌, length}
use Rattle.network_config.specs.declared.fleet.Kid.{Kid}
use Rattle.node_io.specs.declared.spawner.Child.{Child}
use Rattle.node_io.specs.Spawners.{IsFresh}

-- each child is apart from these and from those started behind it
abbrev pub AreApart : List Child → List Child → Type 0
AreApart base [] = Unit {0}
AreApart base (c ∷ cs) = IsFresh base c × (IsFresh cs c × AreApart base cs)

-- the running children are these and then those still to be waited for, each apart from all others
pub record AreOpen (base running waiting : List Child) : Type 0 where
  pub is : running ≡ base ++ waiting
  pub apart : AreApart base waiting

-- the children are numbered from this number on
abbrev pub AreNumbered : ℕ → List Child → Type 0
AreNumbered n [] = Unit {0}
AreNumbered n (c ∷ cs) = (c.0 ≡ n) × AreNumbered (n + 1) cs

-- some of these are open besides those that were open before
pub record LeavesOpen (old new : List Child) : Type 0 where
  pub still : List Child
  pub is : new ≡ old ++ still

-- of so many children that were started, all but these first ones are open besides those that were open before
pub record LeavesAllBut (gone all : ℕ) (old new : List Child) : Type 0 where
  pub still : List Child
  pub is : new ≡ old ++ still
  pub count : gone + length still ≡ all

-- one child was started for each, and these are open, besides some others and each apart from all others
pub record AreStarted (kids : List Kid) (running started : List Child) : Type 0 where
  pub each : length started ≡ length kids
  pub base : List Child
  pub apart : AreOpen base running started

-- no status stands there yet, and there is room for one of each child
pub record HasRoomFor (kids : List Kid) (statuses : List ℕ) (capacity : ℕ) : Type 0 where
  pub none : statuses ≡ []
  pub room : length kids ≤ capacity
