use Rattle.run_app.proofs.performing.way_of.Goals as goal

pub returns-in-Replay : goal.returns-in-Replay
returns-in-Replay c = rw c.in-Replay.is c.kept_way.ensures

pub returns-in-Resume : goal.returns-in-Resume
returns-in-Resume c = rw c.in-Resume.is c.kept_way-in-Resume.ensures

pub returns-in-Query : goal.returns-in-Query
returns-in-Query c = rw c.in-Query.is c.past_way.ensures
