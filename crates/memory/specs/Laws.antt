-- Laws of devices and lengths: each test of a slice on the way to the answer, and what the memory has where the answer is 0.
use Rattle.std.specs.Prelude.{ℕ, zero, suc, ◌≤◌, ◌<◌, ◌≡◌, refl, cond, List, ◌∷◌, leb}
use Rattle.plain.specs.Library.{sym, ap, ◌∙◌, ⊎_elim, arith, le-leb}
use Rattle.plain.specs.declared.Answer.{Answer}
use Rattle.plain.specs.Numbers.{too_short}
use Rattle.plain.specs.Image.{broken_image, nodes_in, edges_in}
use Rattle.plain.specs.Memory.{Slice, Lengths, first_short, live_words, axis_length}
use Rattle.plain.specs.Devices.{Device, Takes, Proper}
use Rattle.plain.specs.Calls.{short_answer, within, fresh, readable, reading_slices, asked, reading, read_image}
use Rattle.plain.proofs.Laws.Booleans.{by_test, below_or_not}
use Rattle.plain.specs.Laws.CallCases.{LongEnough, slice_fits, no_slice}
use Rattle.plain.proofs.Laws.Devices.{box_proper, skid_proper}
use Rattle.plain.proofs.Laws.CallCases.{one_short, long_or_short, nodes_above, edges_above, within_limits}
use Rattle.memory.specs.declared.Device.{Device as Chosen}
use Rattle.memory.specs.declared.Device.TheVariants.{Box, Skid}
use Rattle.memory.specs.Lengths.{device_of}

-- ---- the devices

pub device_proper : (device : Chosen) → Proper (device_of device)
device_proper Box = box_proper
device_proper Skid = skid_proper

-- ---- on the way to the answer

-- refused with the number where there is less than is needed, else as it goes on
unfoldable pub lacking : ℕ → ℕ → ℕ → Answer → Answer
lacking number needs has rest = cond (leb needs has) rest (record { number = number; value = needs })

-- a slice is judged after those that follow it
pub then_lacking : (needs has : ℕ) (slices : List Slice) {rest answer : Answer} → rest ≡ short_answer (first_short slices) → answer ≡ lacking too_short needs has rest
    → answer ≡ short_answer (first_short (record { needs = needs; has = has } ∷ slices))
unfolding lacking first_short
then_lacking needs has slices is judged = judged ∙ by_test (leb needs has) (λ q. rw (q, is)) (λ q. rw q)

module _ (device : Device) (l : Lengths) (rule n m : ℕ) where
  pub read_nodes_above : device.limits.nodes < l.capacities.nodes → record { number = device.number; value = l.capacities.nodes } ≡ reading device l rule n m
  unfolding reading
  read_nodes_above h = sym (nodes_above device l.capacities _ h)

  pub read_edges_above : l.capacities.nodes ≤ device.limits.nodes → device.limits.edges < l.capacities.edges
      → record { number = device.number; value = l.capacities.edges } ≡ reading device l rule n m
  unfolding reading
  read_edges_above few h = sym (edges_above device l.capacities _ few h)

  module _ (takes : Takes device l.capacities) where
    pub read_broken : (rule ≡ 0 → ⊥) → record { number = 12; value = rule } ≡ reading device l rule n m
    unfolding reading
    read_broken broke = sym (within_limits device l.capacities _ takes ∙ by_rule rule _ broke)
      where
        by_rule : (k : ℕ) (rest : Answer) → (k ≡ 0 → ⊥) → readable k rest ≡ record { number = 12; value = k }
        by_rule zero rest z = absurd (z refl)
        by_rule (suc k) rest z = refl

-- making a store is reading an image of nothing
pub fresh_reads : (device : Device) (l : Lengths) → reading device l 0 0 0 ≡ fresh device l
unfolding reading fresh first_short
fresh_reads device l =
    ap (within device l.capacities) (within_limits device (asked 0 0) _ (record { nodes = omega arith; edges = omega arith })
    ∙ rw (le-leb 0 l.capacities.nodes (omega arith), le-leb 0 l.capacities.edges (omega arith)))

-- of an image that is broken the counts are not looked at
pub broken_read : (device : Device) (l : Lengths) (rule n m n' m' : ℕ) → (rule ≡ 0 → ⊥) → reading device l rule n m ≡ reading device l rule n' m'
unfolding reading
broken_read device l zero n m n' m' broke = absurd (broke refl)
broken_read device l (suc rule) n m n' m' broke = refl

-- ---- where the answer is 0

-- Every slice whose length is no capacity is long enough.
pub record Roomy (l : Lengths) : Type 0 where
  pub highs_room : l.capacities.edges ≤ l.highs
  pub live_nodes_room : live_words l.capacities.nodes ≤ l.live_nodes
  pub live_edges_room : live_words l.capacities.edges ≤ l.live_edges
  pub outgoing_room : axis_length l.capacities ≤ l.outgoing
  pub incoming_room : axis_length l.capacities ≤ l.incoming

-- Besides, the device takes the capacities, and these have room for an image that is not broken.
pub record RoomyFor (device : Device) (l : Lengths) (rule n m : ℕ) : Type 0 where
  pub takes : Takes device l.capacities
  pub roomy : Roomy l
  pub unbroken : rule ≡ 0
  pub nodes_room : n ≤ l.capacities.nodes
  pub edges_room : m ≤ l.capacities.edges

module _ {device : Device} (p : Proper device) (l : Lengths) (rule n m : ℕ) (done : (reading device l rule n m).number ≡ 0) where
  -- an answer of another number is none
  other : (a : Answer) → a ≡ reading device l rule n m → (a.number ≡ 0 → ⊥) → ⊥
  other a is refused = refused (ap (λ (a : Answer). a.number) is ∙ done)

  few_nodes : l.capacities.nodes ≤ device.limits.nodes
  few_nodes = ⊎_elim (λ h. absurd (other _ (read_nodes_above device l rule n m h) p.refuses)) (λ h. h) (below_or_not device.limits.nodes l.capacities.nodes)

  few_edges : l.capacities.edges ≤ device.limits.edges
  few_edges =
      ⊎_elim (λ h. absurd (other _ (read_edges_above device l rule n m few_nodes h) p.refuses)) (λ h. h) (below_or_not device.limits.edges l.capacities.edges)

  taken : Takes device l.capacities
  taken = record { nodes = few_nodes; edges = few_edges }

  unbroken : rule ≡ 0
  unbroken = by_rule rule refl
    where
      by_rule : (k : ℕ) → k ≡ rule → rule ≡ 0
      by_rule zero is = sym is
      by_rule (suc k) is = absurd (other _ (read_broken device l rule n m taken (λ q. omega arith)) (λ q. omega arith))

  -- what is said of an image that is not broken
  image_told : {answer : Answer} → within device (asked n m) (short_answer (first_short (reading_slices n m l))) ≡ answer → answer ≡ reading device l rule n m
  unfolding reading
  image_told is = sym (within_limits device l.capacities _ taken ∙ rw unbroken is)

  asked_nodes : n ≤ device.limits.nodes
  asked_nodes =
      ⊎_elim (λ h. absurd (other _ (image_told (nodes_above device (asked n m) _ h)) p.refuses)) (λ h. h) (below_or_not device.limits.nodes n)

  asked_edges : m ≤ device.limits.edges
  asked_edges =
      ⊎_elim (λ h. absurd (other _ (image_told (edges_above device (asked n m) _ asked_nodes h)) p.refuses)) (λ h. h) (below_or_not device.limits.edges m)

  long : LongEnough (reading_slices n m l)
  long =
      ⊎_elim (λ h. h)
      (λ short. absurd (other (record { number = 2; value = short.0 })
      (image_told (within_limits device (asked n m) _ (record { nodes = asked_nodes; edges = asked_edges }) ∙ ap short_answer (one_short short.1)))
      (λ q. omega arith)))
      (long_or_short (reading_slices n m l))

  pub roomy_for : RoomyFor device l rule n m
  roomy_for = each long
    where
      each : LongEnough (reading_slices n m l) → RoomyFor device l rule n m
      each (slice_fits nodes (slice_fits edges (slice_fits highs (slice_fits live_nodes (slice_fits live_edges (slice_fits outgoing (slice_fits incoming no_slice))))))) = record {
        takes = taken;
        roomy = record {
          highs_room = highs;
          live_nodes_room = live_nodes;
          live_edges_room = live_edges;
          outgoing_room = outgoing;
          incoming_room = incoming;
        };
        unbroken = unbroken;
        nodes_room = nodes;
        edges_room = edges;
      }

-- of making a store
pub fresh_roomy : {device : Device} → Proper device → (l : Lengths) → (fresh device l).number ≡ 0 → RoomyFor device l 0 0 0
fresh_roomy {device} p l done = roomy_for p l 0 0 0 (ap (λ (a : Answer). a.number) (fresh_reads device l) ∙ done)

-- and of reading bytes
pub read_roomy : {device : Device} → Proper device → (l : Lengths) (bytes : List ℕ) → (read_image device l bytes).number ≡ 0
    → RoomyFor device l (broken_image bytes) (nodes_in bytes) (edges_in bytes)
unfolding read_image
read_roomy p l bytes done = roomy_for p l (broken_image bytes) (nodes_in bytes) (edges_in bytes) done
