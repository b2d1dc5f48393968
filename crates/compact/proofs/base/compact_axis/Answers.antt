-- `compact::base::compact_axis` meets its contract: the ends are moved down and renumbered, and the base is rebuilt on them.
use Rattle.plain.specs.Library.{sym}
use Rattle.survivors.proofs.Laws.Fronts.{front_long, front_translatable, front_translated}
use Rattle.compact.proofs.Bases.{translatable, rebuildable}
use Rattle.compact.proofs.base.compact_axis.Goals as goal

pub slice_bounds-translate-end : goal.slice_bounds-translate-end
slice_bounds-translate-end c = (translatable c.requires c.keep_live.ensures).room

pub slice_bounds-translate-end-2 : goal.slice_bounds-translate-end-2
slice_bounds-translate-end-2 c = sym (front_long _ _ (translatable c.requires c.keep_live.ensures).room)

pub translate-requires : goal.translate-requires
translate-requires c = front_translatable (translatable c.requires c.keep_live.ensures)

pub rebuild-requires : goal.rebuild-requires
rebuild-requires c =
    rebuildable c.requires c.keep_live.ensures (front_translated (translatable c.requires c.keep_live.ensures) c.translate.ensures)

pub returns : goal.returns
returns c =
    record {
      moved = c.keep_live.new.words;
      renumbered = _;
      moves = rw (← c.requires.counted) at c.keep_live.ensures;
      renumbers = front_translated (translatable c.requires c.keep_live.ensures) c.translate.ensures;
      rebuilds = c.rebuild.ensures;
    }
