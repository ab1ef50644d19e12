use Rattle.base_records.proofs.KindLemmas.{of-both}
use Rattle.base_records.proofs.kinds.BothKinds.known.Goals as goal

pub returns-clause-held : goal.returns-clause-held
returns-clause-held g c = of-both g.A.Kinds.is_kind g.B.Kinds.is_kind _ _ c.known.ensures.held c.known-2.ensures.held

pub returns-clause-settled : goal.returns-clause-settled
returns-clause-settled g c = of-both g.A.Kinds.is_kind g.B.Kinds.is_kind _ _ c.known.ensures.settled c.known-2.ensures.settled
