use Rattle.line_json.proofs.place.are_named.Goals as goal

pub returns-in-Some : goal.returns-in-Some
returns-in-Some c j begins =
    let inside = c.in-Some.ensures j begins in
    (inside.0, inside.1, c.all_named.ensures inside.0 inside.2)
