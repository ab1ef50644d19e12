use Rattle.std.proofs.Common.{◌≡◌, take}
use Rattle.base_roles.proofs.lists.ListedCopied.copied.Given as goal

-- the copies so far are the first values
abbrev pub invariant-loop-value : goal.invariant-loop-value
invariant-loop-value g l = l.list.items ≡ take l.value-index l.self
