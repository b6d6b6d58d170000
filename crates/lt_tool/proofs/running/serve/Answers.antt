use Rattle.lt_tool.proofs.running.serve.Goals as goal

-- `serve_line` searched the lines of the input for the one to serve, and `searched` says what that came to
pub returns : goal.returns
returns g c = record { end = c.serve_line.result; searches = c.serve_line.ensures; is_found = c.searched.ensures }
