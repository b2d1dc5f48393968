-- `image_check::check::first_broken` meets its contract: rules 1 to 3, and the content.
use Rattle.plain.specs.Library.{sym, inl, inr}
use Rattle.plain.proofs.Laws.Refusals.{refused_1, refused_2}
use Rattle.image_check.specs.Checks.{Few}
use Rattle.image_check.proofs.Checking.{other_length, right_length}
use Rattle.image_check.proofs.check.first_broken.Goals.{After-image_bytes, then-n-gt-LIMIT-via-then-n-gt-LIMIT, then-n-gt-LIMIT-via-else-n-gt-LIMIT+then-m-gt-LIMIT}
use Rattle.image_check.proofs.check.first_broken.Goals as goal

-- the counts are within the limit
few : (c : After-image_bytes) → Few c.read_field-n.result c.read_field-m.result
few c = record { nodes = c.if-n-gt-LIMIT.false; edges = c.if-m-gt-LIMIT.false }

pub returns-then-bytes-lt4 : goal.returns-then-bytes-lt4
returns-then-bytes-lt4 c = sym (refused_1 _ c.if-bytes-lt4.true)

pub returns-then-n-gt-LIMIT : goal.returns-then-n-gt-LIMIT
returns-then-n-gt-LIMIT c =
    sym (refused_2 _ c.if-bytes-lt4.false
    (elim c.then-n-gt-LIMIT.branch [
      | then-n-gt-LIMIT-via-then-n-gt-LIMIT w ↦ inl (rw c.read_field-n.ensures at w.if-n-gt-LIMIT.true)
      | then-n-gt-LIMIT-via-else-n-gt-LIMIT+then-m-gt-LIMIT w ↦ inr (rw c.read_field-m.ensures at w.if-m-gt-LIMIT.true)
    ]))

pub returns-then-bytes-image_bytes : goal.returns-then-bytes-image_bytes
returns-then-bytes-image_bytes c =
    other_length _ c.if-bytes-lt4.false c.read_field-n.ensures c.read_field-m.ensures (few (goal.at.returns-then-bytes-image_bytes c).After-image_bytes) c.image_bytes.ensures c.if-bytes-image_bytes.true

pub broken_content-requires : goal.broken_content-requires
broken_content-requires c =
    right_length _ c.if-bytes-lt4.false c.read_field-n.ensures c.read_field-m.ensures (few (goal.at.broken_content-requires c).After-image_bytes) c.image_bytes.ensures c.if-bytes-image_bytes.false
