use Rattle.store_history.proofs.keeper.HistoryKeeper.over.Goals as goal

pub invariant_of-result : goal.invariant_of-result
invariant_of-result g c = (
  record {
    takes_all = c.requires.takes;
    settled = c.requires.settled;
    rises = c.requires.rises;
    history = c.requires.history;
    knows = λ k. c.requires.knows;
  },
  c.requires.lent,
  c.requires.became,
)
