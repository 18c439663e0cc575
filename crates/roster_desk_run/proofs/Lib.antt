mod PlanAnswers
mod FirstWord
