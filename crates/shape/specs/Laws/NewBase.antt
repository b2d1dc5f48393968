-- The definitions that the laws of proofs/Laws/NewBase.antt speak of.
use Rattle.std.specs.Prelude.{ℕ, suc, ◌+◌, ◌<◌, ◌≡◌, cond, List, [], map, length, eqb, ltb}
use Rattle.plain.specs.Library.{none}
use Rattle.plain.specs.declared.Counts.{Counts}
use Rattle.plain.specs.Numbers.{NONE}
use Rattle.plain.specs.Lists.{from, count, joined}
use Rattle.plain.specs.WellFormed.{Fitted}
use Rattle.shape.specs.Columns.{cell, offset_at, last_at, mark_at}
use Rattle.shape.specs.Shape.{Adjacency}
use Rattle.shape.specs.Index.{before, ends_of}

-- where the base part of a node begins in the adjacency column, 0 for a node that came later
abbrev pub base_start : List ℕ → ℕ → ℕ → ℕ → ℕ → ℕ
base_start ws ce cn bn x = cond (ltb x bn) (offset_at ws ce cn x) 0

-- and where it ends
abbrev pub base_end : List ℕ → ℕ → ℕ → ℕ → ℕ → ℕ
base_end ws ce cn bn x = cond (ltb x bn) (offset_at ws ce cn (suc x)) 0

-- Offsets that start at 0, step over the edges of each node, and stop at the number of edges.
pub record Offsets (ws : List ℕ) (ce cn n : ℕ) (ends : List ℕ) : Type 0 where
  pub starts : offset_at ws ce cn 0 ≡ 0
  pub steps : (x : ℕ) → x < n → offset_at ws ce cn (suc x) ≡ offset_at ws ce cn x + count (eqb x) ends
  pub stops : offset_at ws ce cn n ≡ length ends

-- The index of n nodes, built from the ends of the edges and the list of each node.
pub record Built (ws : List ℕ) (ce cn n : ℕ) (ends : List ℕ) (lists : List (List ℕ)) : Type 0 where
  pub ends_there : ends_of ws (length ends) ≡ ends
  pub offsets : (x : ℕ) → x < n + 1 → offset_at ws ce cn x ≡ before ends x
  pub entries : map (cell ws ce) (from 0 (length ends)) ≡ joined lists

-- A node's adjacency where all is in the base.
abbrev pub in_base : List ℕ → Adjacency
in_base list = record { base = list; run = none; ring = [] }

-- One direction, all in the base: the index built from ends and lists, every ring empty, no run, the bounds the base counts.
pub record NewBase (ws : List ℕ) (ce cn : ℕ) (counts : Counts) (ends : List ℕ) (lists : List (List ℕ)) : Type 0 where
  pub fitted : Fitted counts.nodes.bound ends lists
  pub built : Built ws ce cn counts.nodes.bound ends lists
  pub nodes_based : counts.nodes.base ≡ counts.nodes.bound
  pub edges_based : counts.edges.base ≡ length ends
  pub edges_bound : counts.edges.bound ≡ length ends
  pub rings : (x : ℕ) → x < counts.nodes.bound → last_at ws ce x ≡ NONE
  pub marks : (x : ℕ) → x < counts.nodes.bound → mark_at ws ce cn x ≡ 0
