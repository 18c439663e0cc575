mod Reading
mod Reports
