use Rattle.std.proofs.Common.{◌≡◌, ◌∙◌, ap}
use Rattle.std.proofs.lemmas.Result.{IfOk-weaker}
use Rattle.clap.specs.Words.{App, Shape, app_of, with_subcommand}
use Rattle.lt_words.proofs.program.new_langtag.Goals as goal

-- if `old` is the command line `old_is`, and `new` is `old` with one subcommand more, `new` is `old_is` with that
adds : (old new : App) (sub : Shape) (old_is : App) → old ≡ old_is → new ≡ with_subcommand old sub → new ≡ with_subcommand old_is sub
adds old new sub old_is e is = is ∙ ap (λ (a : App). with_subcommand a sub) e

-- the fourteen calls add the subcommands one by one, in the order of `langtag`
pub returns : goal.returns
returns c =
    let one = adds _ (app_of c.in_ok-program.program) _ _ c.new_program-program.ensures c.in_ok-program.ensures in
    let two = adds _ (app_of c.in_ok-program-2.program) _ _ one c.in_ok-program-2.ensures in
    let three = adds _ (app_of c.in_ok-program-3.program) _ _ two c.in_ok-program-3.ensures in
    let four = adds _ (app_of c.in_ok-program-4.program) _ _ three c.in_ok-program-4.ensures in
    let five = adds _ (app_of c.in_ok-program-5.program) _ _ four c.in_ok-program-5.ensures in
    let six = adds _ (app_of c.in_ok-program-6.program) _ _ five c.in_ok-program-6.ensures in
    let seven = adds _ (app_of c.in_ok-program-7.program) _ _ six c.in_ok-program-7.ensures in
    let eight = adds _ (app_of c.in_ok-program-8.program) _ _ seven c.in_ok-program-8.ensures in
    let nine = adds _ (app_of c.in_ok-program-9.program) _ _ eight c.in_ok-program-9.ensures in
    let ten = adds _ (app_of c.in_ok-program-10.program) _ _ nine c.in_ok-program-10.ensures in
    let eleven = adds _ (app_of c.in_ok-program-11.program) _ _ ten c.in_ok-program-11.ensures in
    let twelve = adds _ (app_of c.in_ok-program-12.program) _ _ eleven c.in_ok-program-12.ensures in
    let thirteen = adds _ (app_of c.in_ok-program-13.program) _ _ twelve c.in_ok-program-13.ensures in
    IfOk-weaker c.with_new-14.result _ _ (λ r is. adds _ (app_of r) _ _ thirteen is) c.with_new-14.ensures
