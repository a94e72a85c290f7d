use Rattle.std.proofs.Common.{Some, None, refl}
use Rattle.exi_names.specs.declared.moment.Moment.{Moment}
use Rattle.exi_names.specs.declared.moment.MomentKind.TheVariants as form
use Rattle.exi_moment.proofs.Words.{short_is}
use Rattle.exi_moment.proofs.short.short_date_time.Goals as goal

pub returns-in-Some-short_of-clause-read : goal.returns-in-Some-short_of-clause-read
returns-in-Some-short_of-clause-read c =
    let told = c.in-Some-short_of.ensures in
    let d = c.in-Some-short_of.fields in
    let m : Moment = record { kind = form.DateTime; year = d.year; month = d.month; day = d.day; hour = d.hour; minute = d.minute; second = d.second; fraction = None; zone = Some d.zone } in
    short_is c.in-Some.word c.args.input.now c.take.new.self m c.in-Some.ensures.read c.in-Some.ensures.place (record {
      octet = told.octet;
      whole = told.whole;
      zoned = told.zoned;
      kind = refl;
      year = told.year;
      month_day = told.month_day;
      time = told.time;
      fraction = refl;
      zone = (d.zone, told.zone, refl);
    })
