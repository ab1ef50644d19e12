mod BurnLemmas
mod FactLemmas
mod OtherLemmas
mod ReportLemmas
mod StatementLemmas
mod TextLemmas
mod RunLemmas
mod ValueLemmas
