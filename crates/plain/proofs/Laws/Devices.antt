-- Devices: what the skid takes a box takes, both are proper, and the boxes' reading is what it was before there was a skid.
use Rattle.std.specs.Prelude.{ℕ, zero, suc, ◌≤◌, ◌<◌, ◌≡◌, refl, List, [], ◌∷◌, length, get_or, replicate}
use Rattle.plain.specs.Library.{sym, ap, ◌∙◌, arith}
use Rattle.plain.specs.declared.Answer.{Answer}
use Rattle.plain.specs.Lists.{member, distinct, from, all, count, joined}
use Rattle.plain.specs.Plain.{no_payload}
use Rattle.plain.specs.Compaction.{EdgeRecord, Survivors}
use Rattle.plain.specs.Image.{image, broken_image, nodes_in, edges_in, at_their_nodes, lists_right}
use Rattle.plain.specs.Step.{Capacities}
use Rattle.plain.specs.Memory.{Lengths, first_short, exact}
use Rattle.plain.specs.Devices.{Device, box, skid, Takes, Proper}
use Rattle.plain.specs.Calls.{within, short_answer, readable, reading_slices, asked, reading, read_image}
use Rattle.plain.specs.WellFormed.{Weighed, Fitted, Sound}
use Rattle.plain.proofs.Laws.CallCases.{within_limits, image_nodes_above, image_edges_above}
use Rattle.plain.proofs.Laws.Refusals as refusals
use Rattle.plain.proofs.Laws.ImageLaws.{image_readable, read_back, nodes_length, edges_length}

pub box_proper : Proper box
box_proper = record { no_larger = record { nodes = omega arith; edges = omega arith }; refuses = λ q. omega arith }

pub skid_proper : Proper skid
skid_proper = record { no_larger = record { nodes = omega arith; edges = omega arith }; refuses = λ q. omega arith }

-- a box takes what any device takes
pub box_takes : {device : Device} → Proper device → {caps : Capacities} → Takes device caps → Takes box caps
box_takes p t = record { nodes = omega (arith, p.no_larger.nodes, t.nodes); edges = omega (arith, p.no_larger.edges, t.edges) }

-- and every image: rule 2 of 12 refuses a count above 32,768
pub image_taken : (bytes : List ℕ) → broken_image bytes ≡ 0 → Takes box (asked (nodes_in bytes) (edges_in bytes))
image_taken bytes image =
    let counted = (refusals.readable bytes image).ended.padded.sized.counted in
    record { nodes = counted.nodes_within; edges = counted.edges_within }

-- The boxes' reading is document 01's "13, 12, 2": the limits of the image's counts refuse nothing.
pub boxes_read : (l : Lengths) (bytes : List ℕ) → read_image box l bytes
    ≡ within box l.capacities (readable (broken_image bytes) (short_answer (first_short (reading_slices (nodes_in bytes) (edges_in bytes) l))))
unfolding read_image reading
boxes_read l bytes = ap (within box l.capacities) (by_rule (broken_image bytes) refl)
  where
    rest : Answer
    rest = short_answer (first_short (reading_slices (nodes_in bytes) (edges_in bytes) l))

    by_rule : (rule : ℕ) → broken_image bytes ≡ rule → readable rule (within box (asked (nodes_in bytes) (edges_in bytes)) rest) ≡ readable rule rest
    by_rule zero image = within_limits box (asked (nodes_in bytes) (edges_in bytes)) rest (image_taken bytes image)
    by_rule (suc rule) broke = refl

-- An image that a store wrote, and that is more than a device takes, is refused with the device's number and its count, lots before transfers: on the skid one of 65 lots
-- with 15 and 65, one of 64 lots and 129 transfers with 15 and 129.
module _ (device : Device) (l : Lengths) (takes : Takes device l.capacities) (s : Survivors) (sound : Sound s) where
  nodes_written : nodes_in (image s) ≡ length s.nodes
  nodes_written = sym (nodes_length (image s)) ∙ ap (λ (t : Survivors). length t.nodes) (read_back s sound)

  edges_written : edges_in (image s) ≡ length s.edges
  edges_written = sym (edges_length (image s)) ∙ ap (λ (t : Survivors). length t.edges) (read_back s sound)

  pub many_lots : device.limits.nodes < length s.nodes → read_image device l (image s) ≡ record { number = device.number; value = length s.nodes }
  many_lots h =
      image_nodes_above device l takes (image s) (image_readable s sound) (omega (arith, nodes_written))
      ∙ ap (λ (n : ℕ). record { number = device.number; value = n }) nodes_written

  pub many_transfers : length s.nodes ≤ device.limits.nodes → device.limits.edges < length s.edges
      → read_image device l (image s) ≡ record { number = device.number; value = length s.edges }
  many_transfers h k =
      image_edges_above device l takes (image s) (image_readable s sound) (omega (arith, nodes_written)) (omega (arith, edges_written))
      ∙ ap (λ (n : ℕ). record { number = device.number; value = n }) edges_written

-- ---- an example: 64 lots and 129 transfers

-- each transfer from the first lot to itself
abbrev loops : Survivors
loops = record {
  nodes = replicate {A = ℕ} 64 0;
  edges = replicate {A = EdgeRecord} 129 (record { source = 0; target = 0; payload = no_payload });
  outs = from 0 129 ∷ replicate {A = List ℕ} 63 [];
  ins = from 0 129 ∷ replicate {A = List ℕ} 63 [];
}

all_zero : (n x : ℕ) → get_or (replicate {A = ℕ} n 0) x 0 ≡ 0
all_zero zero x = refl
all_zero (suc n) zero = refl
all_zero (suc n) (suc x) = all_zero n x

all_weighed : (n e : ℕ) → Weighed (get_or (replicate n no_payload) e no_payload)
all_weighed zero e = record { in_order = omega arith; fits = omega arith }
all_weighed (suc n) zero = record { in_order = omega arith; fits = omega arith }
all_weighed (suc n) (suc e) = all_weighed n e

loops_fitted : Fitted 64 (replicate {A = ℕ} 129 0) loops.outs
unfolding member distinct from all count joined at_their_nodes lists_right
loops_fitted = record { ends_below = λ e h. omega (arith, all_zero 129 e); lengths = refl; right = refl }

loops_sound : Sound loops
loops_sound = record {
  nodes_within = omega arith;
  edges_within = omega arith;
  node_payloads = λ x. omega (arith, all_zero 64 x);
  edge_payloads = λ e. all_weighed 129 e;
  outs = loops_fitted;
  ins = loops_fitted;
}

-- their image, into all the memory that the skid takes
pub skid_refuses_129 : read_image skid (exact (asked 64 128)) (image loops) ≡ record { number = 15; value = 129 }
skid_refuses_129 =
    many_transfers skid (exact (asked 64 128)) (record { nodes = omega arith; edges = omega arith }) loops loops_sound (omega arith) (omega arith)
