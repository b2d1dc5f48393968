-- The devices that run the library: the boxes, and the skid that washes tanks. Document 02, No. 7: "The skid that washes tanks runs the same library for 64 lots and
-- 128 transfers, in a memory that is never larger. It gets its own fresh and image-reading entries; the boxes keep 32,768 and number 13." Making a store and reading an
-- image ask which device they run on; no other call does.
use Rattle.std.specs.Prelude.{ℕ, ◌≤◌, ◌≡◌}
use Rattle.plain.specs.Numbers.{LIMIT, above_limit, above_skid}
use Rattle.plain.specs.Step.{Capacities}

-- A device: the most nodes and edges that it takes, and the number that it refuses more with.
pub record Device : Type 0 where
  pub limits : Capacities
  pub number : ℕ

-- "capacity above 32,768 | 13 | that capacity | everything"
abbrev pub box : Device
box = record { limits = record { nodes = LIMIT; edges = LIMIT }; number = above_limit }

-- "64 lots and 128 transfers", "It refuses with 15"
abbrev pub skid : Device
skid = record { limits = record { nodes = 64; edges = 128 }; number = above_skid }

-- Capacities that a device takes: "in a memory that is never larger".
pub record Takes (device : Device) (caps : Capacities) : Type 0 where
  pub nodes : caps.nodes ≤ device.limits.nodes
  pub edges : caps.edges ≤ device.limits.edges

-- What holds of both, and is all that is asked of a device: it takes nothing that a box does not, so that what it makes passes the check, and its number is a refusal's.
pub record Proper (device : Device) : Type 0 where
  pub no_larger : Takes box device.limits
  pub refuses : device.number ≡ 0 → ⊥
