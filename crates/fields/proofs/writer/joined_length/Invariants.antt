use Rattle.std.proofs.Common.{◌≡◌, ◌+◌, ◌≤◌, length, drop}
use Rattle.fields.specs.Cuts.{led, joined}
use Rattle.fields.specs.Takes.{lists}
use Rattle.fields.proofs.writer.joined_length.Given as goal

abbrev pub invariant-loop-field : goal.invariant-loop-field
invariant-loop-field l =
    (l.left ≤ l.most) × (l.most + length (led (lists (drop l.field-index l.rest))) ≡ l.left + length (joined (lists l.fields)))
