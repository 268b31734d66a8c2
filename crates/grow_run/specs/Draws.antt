-- What is drawn for each event.
use Rattle.std.specs.Prelude.{ℕ, ◌+◌, ◌%◌, ◌==◌, nat_lt, if◌then◌else◌, Option, unwrap_or}
use Rattle.rand_pcg.specs.Lcg.{Lcg, started, increment_of}
use Rattle.rand_pcg.specs.Pcg.{multiplier_64, pcg32}
use Rattle.plan_base.specs.declared.ids.Host.{Host}
use Rattle.plan_base.specs.declared.ids.Dev.{Dev}
use Rattle.grow_run.specs.declared.choice.RandomEvent.{RandomEvent}
use Rattle.grow_run.specs.declared.choice.RandomEvent.TheVariants.{Inject, Send, Deliver, Lose, Tick}

-- the generator of a seed
abbrev pub seeded_generator : ℕ → Lcg
seeded_generator seed = started 64 multiplier_64 seed (increment_of 64 1)

-- the next word modulo k, and the generator after it
abbrev pub draw : ℕ → Lcg → ℕ × Lcg
draw k g = ((pcg32 g).0 % k, (pcg32 g).1)

-- a host from 1 to 8
abbrev pub draw_host : Lcg → Host × Lcg
draw_host g = (record { 0 = 1 + (draw 8 g).0 }, (draw 8 g).1)

-- a device from 0 to 2
abbrev pub draw_dev : Lcg → Dev × Lcg
draw_dev g = (record { 0 = (draw 3 g).0 }, (draw 3 g).1)

abbrev pub choose_tick : Lcg → RandomEvent × Lcg
choose_tick g = (Tick (draw_host g).0, (draw_host g).1)

abbrev pub choose_inject : Lcg → RandomEvent × Lcg
choose_inject g = (Inject (draw_host g).0 (draw_host (draw_host g).1).0, (draw_host (draw_host g).1).1)

abbrev pub choose_send : Lcg → RandomEvent × Lcg
choose_send g = (Send (draw_host g).0 (draw_dev (draw_host g).1).0, (draw_dev (draw_host g).1).1)

-- 0 loses the lowest frame, 1 ticks, 2 and 3 inject, 4 to 9 send, 10 to 13 deliver the lowest, and 14 and 15 the highest
unfoldable pub choose_by : ℕ → ℕ → ℕ → Lcg → RandomEvent × Lcg
choose_by r lowest highest g =
    if r == 0 then (Lose lowest, g)
    else if r == 1 then choose_tick g
    else if nat_lt r 4 then choose_inject g
    else if nat_lt r 10 then choose_send g
    else if nat_lt r 14 then (Deliver lowest, g)
    else (Deliver highest, g)

-- the next choice; where nothing is on the wire, number 1 stands for the lowest and the highest
unfoldable pub choose : Option ℕ → Option ℕ → Lcg → RandomEvent × Lcg
choose lowest highest g = choose_by (draw 16 g).0 (unwrap_or lowest 1) (unwrap_or highest 1) (draw 16 g).1
